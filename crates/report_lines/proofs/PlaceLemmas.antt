-- What is wanted at a place that is held.
use Rattle.std.proofs.Common.{◌≡◌, refl, sym, ap, ◌∙◌, ℕ, ◌+◌, ◌<◌, ◌≤◌, Bool, true, false, cond, Option, None, option_map, List, length, lt-ltb, le-ltb}
use Rattle.std.specs.Prelude.{nat_lt}
use Rattle.vocab.specs.Study.{Question}
use Rattle.verdicts.specs.Texts.{words_of}
use Rattle.verdicts.specs.Judge.{read_line}
use Rattle.verdicts.specs.Places.{Place, AtTitle, AtKind, AtVoters, AtAlternatives, AtBallots, AtAbsent, AtAxioms, AtVerdict, AtLimit, AtRule, AtRow, AtCore, AtLemmas, AtLemma, AtSuppose, AtStep, AtWitness, AtWitnessRow, AtEnd, AtNothing, Standing, wanted}
use Rattle.report_lines.specs.declared.lines.Line.{Line as HeldLine}
use Rattle.report_lines.specs.declared.places.Place.{Place as HeldPlace}
use Rattle.report_lines.specs.Held.{held_place, held_line}
use Rattle.report_lines.specs.Wanted.{held_wanted}

module _ (study : Question) where
  pub at_place : (p q : HeldPlace) (number : ℕ) (words : List (List ℕ)) (r : Option HeldLine) → p ≡ q → r ≡ held_wanted study q number words → r ≡ held_wanted study p number words
  at_place p q number words r e t = t ∙ ap (λ (place : HeldPlace). held_wanted study place number words) (sym e)

  -- the place alone tells what is wanted
  pub wanted_held : (p : Place) (number : ℕ) (words : List (List ℕ)) → held_wanted study (held_place p) number words ≡ option_map (held_line study) (wanted study p number words)
  wanted_held AtTitle number words = refl
  wanted_held AtKind number words = refl
  wanted_held AtVoters number words = refl
  wanted_held AtAlternatives number words = refl
  wanted_held AtBallots number words = refl
  wanted_held AtAbsent number words = refl
  wanted_held AtAxioms number words = refl
  wanted_held AtVerdict number words = refl
  wanted_held AtLimit number words = refl
  wanted_held AtRule number words = refl
  wanted_held AtRow number words = refl
  wanted_held AtCore number words = refl
  wanted_held AtLemmas number words = refl
  wanted_held AtLemma number words = refl
  wanted_held AtSuppose number words = refl
  wanted_held AtStep number words = refl
  wanted_held AtWitness number words = refl
  wanted_held AtWitnessRow number words = refl
  wanted_held (AtEnd verdict) number words = refl
  wanted_held (AtNothing verdict) number words = refl

  module _ (s : Standing) (text : List ℕ) where
    by_length : (b : Bool) → nat_lt 4096 (length text) ≡ b → read_line study s text ≡ cond b None (wanted study s.place (length s.earlier + 1) (words_of text))
    by_length b e = ap (λ c. cond c None (wanted study s.place (length s.earlier + 1) (words_of text))) e

    -- a long line
    pub long_line : 4096 < length text → None ≡ option_map (held_line study) (read_line study s text)
    long_line l = sym (ap (option_map (held_line study)) (by_length true (lt-ltb 4096 (length text) l)))

    -- another one
    pub short_line : length text ≤ 4096 → (place : HeldPlace) (number : ℕ) (r : Option HeldLine) → place ≡ held_place s.place → number ≡ length s.earlier + 1 → r ≡ held_wanted study place number (words_of text) → r ≡ option_map (held_line study) (read_line study s text)
    short_line l place number r p n t =
        t ∙ ap (λ (q : HeldPlace). held_wanted study q number (words_of text)) p ∙ ap (λ k. held_wanted study (held_place s.place) k (words_of text)) n
        ∙ wanted_held s.place (length s.earlier + 1) (words_of text) ∙ sym (ap (option_map (held_line study)) (by_length false (le-ltb 4096 (length text) l)))
