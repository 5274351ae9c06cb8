use Rattle.std.proofs.Common.{◌≡◌, ℕ, ◌<◌, ◌^◌, ◌++◌, drop}
use Rattle.vocab.specs.Size.{cast_count, sort_count}
use Rattle.vocab.specs.declared.kinds.Sort.TheVariants.{Profile}
use Rattle.meaning.specs.Texts.{profile_text}
use Rattle.profiles.proofs.JoinLemmas.{barred}
use Rattle.profiles.proofs.ProfileTexts.{front_text, texts_of}
use Rattle.profiles.proofs.space.Space.read_profile.Given as goal

abbrev pub invariant-loop-i : goal.invariant-loop-i
invariant-loop-i l = record {
  small : l.profile < cast_count l.self ^ l._i;
  read : l.text ≡ front_text l.self l._i l.profile ++ l.rest;
  follows : (p : ℕ) → p < sort_count l.self Profile → l.text ≡ profile_text l.self p → l.rest ≡ barred (drop l._i (texts_of l.self p));
}
