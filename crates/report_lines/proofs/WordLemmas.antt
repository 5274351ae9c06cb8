-- The words of a line, cut off its front.
use Rattle.std.proofs.Math.Path.{fun_ext}
use Rattle.std.specs.Str.{bytes_eq}
use Rattle.verdicts.specs.Reading.{keyed, one_word}
use Rattle.std.proofs.Common.{◌≡◌, option_and_then, true≢false, refl, sym, ap, ◌∙◌, ℕ, ◌+◌, ◌≤◌, Bool, true, false, not, cond, List, [], ◌∷◌, length, take, drop, Option, Some, None, arith, ltb-false}
use Rattle.std.specs.Prelude.{◌==◌, nat_lt, position}
use Rattle.std.specs.List.{position_or_len, onto_first}
use Rattle.std.proofs.lemmas.List.Splits.{slice_split-cons_yes, slice_split-cons_no}
use Rattle.std.proofs.lemmas.List.Sums.{prefix_len-le-length}
use Rattle.lists.proofs.PlaceLaws.{drop_cons, take_cons}
use Rattle.verdicts.specs.Texts.{words_of}
use Rattle.report_lines.specs.Rest.{words_after}

abbrev is_blank : ℕ → Bool
is_blank b = b == 32

-- where the first word ends
abbrev pub end_of : List ℕ → ℕ
end_of text = position_or_len (λ b. b == 32) text

pub end_within : (text : List ℕ) → end_of text ≤ length text
end_within text = prefix_len-le-length (λ b. not (b == 32)) text

pub end_none : (text : List ℕ) → None ≡ position (λ b. b == 32) text → length text ≡ end_of text
end_none text e = by_test (nat_lt (end_of text) (length text)) refl e
  where
    by_test : (t : Bool) → nat_lt (end_of text) (length text) ≡ t → None ≡ cond t (Some (end_of text)) None → length text ≡ end_of text
    by_test true h e = absurd (cc)
    by_test false h e = omega (arith, ltb-false (end_of text) (length text) h, end_within text)

-- the first word, and the words of what is left
pub cut : (text : List ℕ) → words_of text ≡ take (end_of text) text ∷ words_after (drop (end_of text) text)
cut [] = refl
cut (b ∷ text) = by_test (cut text) (is_blank b) refl
  where
    by_test : (words_of text ≡ take (end_of text) text ∷ words_after (drop (end_of text) text)) → (t : Bool) → is_blank b ≡ t → words_of (b ∷ text) ≡ take (cond (not t) (1 + end_of text) 0) (b ∷ text) ∷ words_after (drop (cond (not t) (1 + end_of text) 0) (b ∷ text))
    by_test more true h = slice_split-cons_yes (λ b. b == 32) b text h
    by_test more false h =
        slice_split-cons_no (λ b. b == 32) b text h ∙ ap (onto_first b) more
        ∙ ap (λ w. w ∷ words_after (drop (end_of text) text)) (sym (take_cons b (end_of text) text))
        ∙ ap (λ r. take (1 + end_of text) (b ∷ text) ∷ words_after r) (sym (drop_cons b (end_of text) text))

-- where something is left, it has a word
pub not_one : (words : List (List ℕ)) (w more : List ℕ) → words ≡ w ∷ words_after more → (length more == 0) ≡ false → one_word (λ v. Some v) words ≡ None
not_one words w [] e h = absurd (true≢false h)
not_one words w (c ∷ text) e h = ap (one_word (λ v. Some v)) (e ∙ ap (λ ws. w ∷ ws) (cut text))

-- a key and what it is followed by
module _ {A : Type 0} where
  keyed_test : (b : Bool) (go : List (List ℕ) → Option A) (words : List (List ℕ)) → cond b (go words) None ≡ option_and_then go (cond b (Some words) None)
  keyed_test true go words = refl
  keyed_test false go words = refl

  pub keyed_then : (key : List ℕ) (go : List (List ℕ) → Option A) (words : List (List ℕ)) → keyed key go words ≡ option_and_then go (keyed key (λ ws. Some ws) words)
  keyed_then key go [] = refl
  keyed_then key go (w ∷ words) = keyed_test (bytes_eq w key) go words

  pub one_then : (read : List ℕ → Option A) (words : List (List ℕ)) → one_word read words ≡ option_and_then read (one_word (λ w. Some w) words)
  one_then read [] = refl
  one_then read (w ∷ []) = refl
  one_then read (w ∷ v ∷ words) = refl

module _ {A : Type 0} where
  and_then_twice : {B C : Type 0} (f : B → Option C) (g : A → Option B) (o : Option A) → option_and_then (λ a. option_and_then f (g a)) o ≡ option_and_then f (option_and_then g o)
  and_then_twice f g None = refl
  and_then_twice f g (Some a) = refl

-- a key and one word
pub keyed_one_then : {A : Type 0} (key : List ℕ) (read : List ℕ → Option A) (words : List (List ℕ)) → keyed key (one_word read) words ≡ option_and_then read (keyed key (one_word (λ w. Some w)) words)
keyed_one_then key read words =
    keyed_then key (one_word read) words
    ∙ ap (λ (go : List (List ℕ) → Option _). option_and_then go (keyed key (λ ws. Some ws) words)) (fun_ext (one_then read))
    ∙ and_then_twice read (one_word (λ w. Some w)) (keyed key (λ ws. Some ws) words)
    ∙ sym (ap (option_and_then read) (keyed_then key (one_word (λ w. Some w)) words))
