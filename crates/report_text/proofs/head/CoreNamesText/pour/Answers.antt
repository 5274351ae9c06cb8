use Rattle.std.proofs.Common.{◌≡◌, ◌∷◌, ap, ◌∙◌, ℕ, List, get_or, slice_get, Some}
use Rattle.verdicts.specs.Lines.{name_at}
use Rattle.texts.proofs.LoopLemmas.{spelled_stops, spelled_goes_on}
use Rattle.report_text.proofs.ReportLemmas.{name_there}
use Rattle.report_text.proofs.head.CoreNamesText.pour.Goals as goal

pub returns-in_err-pour : goal.returns-in_err-pour
returns-in_err-pour g c =
    let axioms = c.args.self.now.study.now.axioms in
    let k : ℕ = get_or c.args.self.now.core.now c.loop-place.place-index 0 in
    let at : slice_get axioms k ≡ Some c.get.result.now = rw c.axioms.ensures.axioms at c.get.ensures in
    spelled_stops (λ (_ : ℕ) (k : ℕ). 32 ∷ name_at axioms k) c.args.self.now.core.now 0 c.loop-place.place-index 0 _ _ _ _ _ _ c.loop-place.invariant _ _ _ c.in_err-pour.field-0.0 c.from_residual.result _ c.loop-place-test.true
    (ap (λ (name : List ℕ). 32 ∷ name) (c.bytes.ensures ∙ c.name-name.ensures ∙ name_there axioms k c.get.result.now at)) c.from_residual.ensures.0 c.in_err-pour.ensures

pub loop-place-preserved : goal.loop-place-preserved
loop-place-preserved g c =
    let axioms = c.args.self.now.study.now.axioms in
    let k : ℕ = get_or c.args.self.now.core.now c.loop-place.place-index 0 in
    let at : slice_get axioms k ≡ Some c.get.result.now = rw c.axioms.ensures.axioms at c.get.ensures in
    spelled_goes_on (λ (_ : ℕ) (k : ℕ). 32 ∷ name_at axioms k) c.args.self.now.core.now 0 c.loop-place.place-index 0 _ _ _ _ _ _ c.loop-place.invariant _ _ _ c.in_ok-pour.field-0 _ c.loop-place-test.true
    (ap (λ (name : List ℕ). 32 ∷ name) (c.bytes.ensures ∙ c.name-name.ensures ∙ name_there axioms k c.get.result.now at)) c.in_ok-pour.ensures
