-- What plain words are, by computation.
use Rattle.std.proofs.Common.{◌≡◌, refl, [], ◌∷◌, ◌++◌, codes, Some, option_map}
use Rattle.clap.specs.Words.{Text}
use Rattle.clap.proofs.OnLiterals.{clap_on_literals}
use Rattle.verdicts.specs.Numbers.{number_within}
use Rattle.words.specs.Values.{kind_named}
use Rattle.words.specs.Words.{Decide, Check, Export, Proof, Lrat, Axioms, Sample, Adopt, Gain, Sharpen, request_of}
use Rattle.word_laws.specs.Laws.{IsPlain, PlainWords, WorkersWords}

decide_read : (word : Text) → IsPlain word → request_of (codes "decide" ∷ word ∷ []) ≡ Some (Decide word 1)
unfolding clap_on_literals request_of
decide_read [] e = refl
decide_read (c ∷ cs) e = rw (e, e) refl

export_read : (word : Text) → IsPlain word → request_of (codes "export" ∷ word ∷ []) ≡ Some (Export word 1)
unfolding clap_on_literals request_of
export_read [] e = refl
export_read (c ∷ cs) e = rw (e, e) refl

proof_read : (word : Text) → IsPlain word → request_of (codes "proof" ∷ word ∷ []) ≡ Some (Proof word 1)
unfolding clap_on_literals request_of
proof_read [] e = refl
proof_read (c ∷ cs) e = rw (e, e) refl

sharpen_read : (word : Text) → IsPlain word → request_of (codes "sharpen" ∷ word ∷ []) ≡ Some (Sharpen word 1)
unfolding clap_on_literals request_of
sharpen_read [] e = refl
sharpen_read (c ∷ cs) e = rw (e, e) refl

axioms_read : (word : Text) → IsPlain word → request_of (codes "axioms" ∷ word ∷ []) ≡ option_map Axioms (kind_named word)
unfolding clap_on_literals request_of
axioms_read [] e = refl
axioms_read (c ∷ cs) e = rw (e, e) refl

sample_read : (word : Text) → IsPlain word → request_of (codes "sample" ∷ word ∷ []) ≡ option_map Sample (number_within 0 4294967295 word)
unfolding clap_on_literals request_of
sample_read [] e = refl
sample_read (c ∷ cs) e = rw (e, e) refl

check_read : (a b : Text) → IsPlain a → IsPlain b → request_of (codes "check" ∷ a ∷ b ∷ []) ≡ Some (Check a b 1)
unfolding clap_on_literals request_of
check_read [] [] e f = refl
check_read [] (d ∷ ds) e f = rw (f, f) refl
check_read (c ∷ cs) [] e f = rw (e, e) refl
check_read (c ∷ cs) (d ∷ ds) e f = rw (e, e, f, f) refl

lrat_read : (a b : Text) → IsPlain a → IsPlain b → request_of (codes "lrat" ∷ a ∷ b ∷ []) ≡ Some (Lrat a b)
unfolding clap_on_literals request_of
lrat_read [] [] e f = refl
lrat_read [] (d ∷ ds) e f = rw (f, f) refl
lrat_read (c ∷ cs) [] e f = rw (e, e) refl
lrat_read (c ∷ cs) (d ∷ ds) e f = rw (e, e, f, f) refl

adopt_read : (a b : Text) → IsPlain a → IsPlain b → request_of (codes "adopt" ∷ a ∷ b ∷ []) ≡ Some (Adopt a b 1)
unfolding clap_on_literals request_of
adopt_read [] [] e f = refl
adopt_read [] (d ∷ ds) e f = rw (f, f) refl
adopt_read (c ∷ cs) [] e f = rw (e, e) refl
adopt_read (c ∷ cs) (d ∷ ds) e f = rw (e, e, f, f) refl

gain_read : (a b : Text) → IsPlain a → IsPlain b → request_of (codes "gain" ∷ a ∷ b ∷ []) ≡ Some (Gain a b)
unfolding clap_on_literals request_of
gain_read [] [] e f = refl
gain_read [] (d ∷ ds) e f = rw (f, f) refl
gain_read (c ∷ cs) [] e f = rw (e, e) refl
gain_read (c ∷ cs) (d ∷ ds) e f = rw (e, e, f, f) refl

before_read : (a b : Text) → IsPlain a → IsPlain b → request_of (codes "check" ∷ codes "--workers" ∷ b ∷ codes "s" ∷ a ∷ []) ≡ option_map (Check (codes "s") a) (number_within 1 16 b)
unfolding clap_on_literals request_of
before_read [] [] e f = refl
before_read [] (d ∷ ds) e f = rw (f, f) refl
before_read (c ∷ cs) [] e f = rw (e, e) refl
before_read (c ∷ cs) (d ∷ ds) e f = rw (f, f, e, e) refl

between_read : (a b : Text) → IsPlain a → IsPlain b → request_of (codes "check" ∷ a ∷ codes "--workers" ∷ b ∷ codes "r" ∷ []) ≡ option_map (Check a (codes "r")) (number_within 1 16 b)
unfolding clap_on_literals request_of
between_read [] [] e f = refl
between_read [] (d ∷ ds) e f = rw (f, f) refl
between_read (c ∷ cs) [] e f = rw (e, e) refl
between_read (c ∷ cs) (d ∷ ds) e f = rw (e, e, f, f) refl

after_read : (a b : Text) → IsPlain a → IsPlain b → request_of (codes "check" ∷ a ∷ codes "r" ∷ codes "--workers" ∷ b ∷ []) ≡ option_map (Check a (codes "r")) (number_within 1 16 b)
unfolding clap_on_literals request_of
after_read [] [] e f = refl
after_read [] (d ∷ ds) e f = rw (f, f) refl
after_read (c ∷ cs) [] e f = rw (e, e) refl
after_read (c ∷ cs) (d ∷ ds) e f = rw (e, e, f, f) refl

joined_read : (a b n : Text) → IsPlain a → IsPlain b → request_of (codes "check" ∷ a ∷ b ∷ (codes "--workers=" ++ n) ∷ []) ≡ option_map (Check a b) (number_within 1 16 n)
unfolding clap_on_literals request_of
joined_read [] [] n e f = refl
joined_read [] (d ∷ ds) n e f = rw (f, f) refl
joined_read (c ∷ cs) [] n e f = rw (e, e) refl
joined_read (c ∷ cs) (d ∷ ds) n e f = rw (e, e, f, f) refl

pub plain : PlainWords
plain = record {
  decide = decide_read;
  check = check_read;
  export = export_read;
  proof = proof_read;
  lrat = lrat_read;
  axioms = axioms_read;
  sample = sample_read;
  adopt = adopt_read;
  gain = gain_read;
  sharpen = sharpen_read;
}

pub workers : WorkersWords
workers = record { before = before_read; between = between_read; after = after_read; joined = joined_read }
