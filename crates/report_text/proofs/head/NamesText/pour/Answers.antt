use Rattle.std.proofs.Common.{◌∷◌, ap, ◌∙◌, ℕ, List}
use Rattle.vocab.specs.Titled.{Titled}
use Rattle.texts.proofs.LoopLemmas.{spelled_stops, spelled_goes_on}
use Rattle.report_text.proofs.head.NamesText.pour.Goals as goal

pub returns-in_err-pour : goal.returns-in_err-pour
returns-in_err-pour g c =
    spelled_stops (λ (_ : ℕ) (a : Titled). 32 ∷ a.name) c.args.self.now.axioms.now 0 c.loop-axiom.axiom-index c.axiom-item.result _ _ _ _ _ _ c.loop-axiom.invariant _ _ _ c.in_err-pour.field-0.0 c.from_residual.result _ c.loop-axiom-test.true
    (ap (λ (name : List ℕ). 32 ∷ name) (c.bytes.ensures ∙ c.name-name.ensures ∙ ap (λ (a : Titled). a.name) c.axiom-item.is)) c.from_residual.ensures.0 c.in_err-pour.ensures

pub loop-axiom-preserved : goal.loop-axiom-preserved
loop-axiom-preserved g c =
    spelled_goes_on (λ (_ : ℕ) (a : Titled). 32 ∷ a.name) c.args.self.now.axioms.now 0 c.loop-axiom.axiom-index c.axiom-item.result _ _ _ _ _ _ c.loop-axiom.invariant _ _ _ c.in_ok-pour.field-0 _ c.loop-axiom-test.true
    (ap (λ (name : List ℕ). 32 ∷ name) (c.bytes.ensures ∙ c.name-name.ensures ∙ ap (λ (a : Titled). a.name) c.axiom-item.is)) c.in_ok-pour.ensures
