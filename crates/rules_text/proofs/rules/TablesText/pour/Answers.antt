use Rattle.std.proofs.Common.{◌≡◌, ap, ◌+◌, ℕ, List, get_or, arith}
use Rattle.texts.proofs.LoopLemmas.{spelled_stops, spelled_goes_on}
use Rattle.rules_text.specs.RulesText.{rule_text}
use Rattle.rules_text.proofs.rules.TablesText.pour.Goals as goal

pub returns-in_err-pour : goal.returns-in_err-pour
returns-in_err-pour g c =
    let size = g.K.OutcomeKind.size c.args.self.now.kind.now in
    let tables : List (List ℕ) = c.args.self.now.tables.now in
    let next : c.loop-place.place + 1 ≡ 1 + c.loop-place.place = omega arith in
    spelled_stops (rule_text size) tables 1 c.loop-place.place c.index-self-place.result _ _ _ _ _ _ c.loop-place.invariant _ _ _ c.in_err-pour.field-0.0 c.from_residual.result _ c.loop-place-test.true
    (ap (λ (n : ℕ). rule_text size n (get_or tables c.loop-place.place c.index-self-place.result)) next) c.from_residual.ensures.0 c.in_err-pour.ensures

pub loop-place-preserved : goal.loop-place-preserved
loop-place-preserved g c =
    let size = g.K.OutcomeKind.size c.args.self.now.kind.now in
    let tables : List (List ℕ) = c.args.self.now.tables.now in
    let next : c.loop-place.place + 1 ≡ 1 + c.loop-place.place = omega arith in
    spelled_goes_on (rule_text size) tables 1 c.loop-place.place c.index-self-place.result _ _ _ _ _ _ c.loop-place.invariant _ _ _ c.in_ok-pour.field-0 _ c.loop-place-test.true
    (ap (λ (n : ℕ). rule_text size n (get_or tables c.loop-place.place c.index-self-place.result)) next) c.in_ok-pour.ensures
