-- Weights of formulas.
use Rattle.std.proofs.Common.{◌≡◌, sym, ◌∙◌, ap, subst, Bool}
use Rattle.meaning.specs.Clauses.{known_truth}
use Rattle.meaning.specs.declared.clauses.Counts.{Counts}
use Rattle.meaning.specs.declared.three.Three.TheVariants.{True, False}
use Rattle.meaning.specs.Kleene.{three_of}
use Rattle.meaning.specs.Measure.{measure_of}
use Rattle.meaning.specs.Written.{Written}
use Rattle.clause_form.specs.Weights.{IsWeight}
use Rattle.clause_form.specs.Wide.{capped_counts}
use Rattle.clause_form.specs.declared.weights.Weight.{Weight}
use Rattle.clause_form.specs.declared.weights.Weight.TheVariants.{Known, Open}
use Rattle.clause_form.proofs.KnownLaws.{SameForm, plus_false, plus_true}

pub same_weight : (f : Weight) (w v : Written) → SameForm w v → IsWeight f v → IsWeight f w
same_weight (Known b) w v s h = s.known ∙ h
same_weight (Open p m) w v s h = (s.known ∙ h.0, h.1 ∙ ap capped_counts (sym s.plus_same), h.2 ∙ ap capped_counts (sym s.minus_same))

pub known_weight : (f : Weight) (b t : Bool) (w : Written) → f ≡ Known b → b ≡ t → IsWeight f w → known_truth w ≡ three_of t
known_weight f b t w e h k = let l : known_truth w ≡ three_of b = subst (λ u. IsWeight u w) e k in l ∙ ap three_of h

pub measure_true : (w : Written) → known_truth w ≡ True → (let c : Counts = record { clauses = 0; literals = 0 } in c) ≡ measure_of w
measure_true w e = sym (ap capped_counts (plus_true w e))

pub measure_false : (w : Written) → known_truth w ≡ False → (let c : Counts = record { clauses = 1; literals = 0 } in c) ≡ measure_of w
measure_false w e = sym (ap capped_counts (plus_false w e))
