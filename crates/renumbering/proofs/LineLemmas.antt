-- Renumbered lines add the same clauses, and are trimmed over the other list.
use Rattle.std.proofs.Common.{◌≡◌, refl, sym, ap₂, subst, ◌∙◌, ℕ, suc, ◌<◌, Bool, true, false, List, [], ◌∷◌, map, length}
use Rattle.std.specs.Prelude.{slice_index_or}
use Rattle.cnf.specs.declared.derivations.Line.{Line}
use Rattle.cnf.specs.declared.derivations.Step.{Step}
use Rattle.cnf.specs.declared.derivations.Step.TheVariants.{Add, Drop}
use Rattle.cnf.specs.Fresh.{added_by}
use Rattle.cnf.specs.Sat.{Clause}
use Rattle.cnf.specs.Trimmed.{is_cited_in, is_trimmed}
use Rattle.renumbering.specs.Renumbered.{ArePlacesUpTo, renumbered_step, renumbered_line}
use Rattle.renumbering.proofs.RenumberedLaws.{trimmed_renumbered}

module _ (before after : ℕ) (places : List ℕ) where
  step_same : (step : Step) → added_by (renumbered_step before after places step) ≡ added_by step
  step_same (Add id clause hints) = refl
  step_same (Drop ids) = refl

  pub added_same : (lines : List Line) → map (λ (l : Line). added_by l.step) (map (renumbered_line before after places) lines) ≡ map (λ (l : Line). added_by l.step) lines
  added_same [] = refl
  added_same (line ∷ lines) = ap₂ (λ (c : Clause) (cs : List Clause). c ∷ cs) (step_same line.step) (added_same lines)

pub moved_trimmed : (old new : List Clause) (flags : List Bool) (places : List ℕ) (lines moved : List Line) (after : ℕ) → is_trimmed old lines ≡ true → ArePlacesUpTo old new flags (length old) places
    → ((j : ℕ) → j < length old → is_cited_in lines (suc j) ≡ true → slice_index_or flags j false ≡ true) → after ≡ length new → moved ≡ map (renumbered_line (length places) after places) lines → is_trimmed new moved ≡ true
moved_trimmed old new flags places lines moved after h p up same is =
    let made : moved ≡ map (renumbered_line (length old) (length new) places) lines = is ∙ ap₂ (λ (b a : ℕ). map (renumbered_line b a places) lines) p.count same in
    subst (λ ls. is_trimmed new ls ≡ true) (sym made) (trimmed_renumbered old new places lines h (λ j lt cited. p.stand j lt (up j lt cited)))
