use Rattle.std.proofs.Common.{◌≡◌, ap, ◌∙◌, ℕ, List, get_or, arith}
use Rattle.meaning.specs.Texts.{profile_text, outcome_text}
use Rattle.vocab.specs.Size.{Extent}
use Rattle.meaning.proofs.RuleLaws.{rule_outcome}
use Rattle.texts.proofs.LoopLemmas.{spelled_stops, spelled_goes_on}
use Rattle.report_text.proofs.ReportLemmas.{at_item, row_is, row_text}
use Rattle.report_text.proofs.rules.RowsText.pour.Goals as goal

pub text-outcome-requires : goal.text-outcome-requires
text-outcome-requires g c = rw c.from.ensures (rule_outcome (g.K.OutcomeKind.size c.args.self.now.kind.now) c.args.self.now.table.now c.loop-p.p c.get.result.now c.requires c.get.ensures)

pub returns-in_err-pour : goal.returns-in_err-pour
returns-in_err-pour g c =
    let size : Extent = g.K.OutcomeKind.size c.args.self.now.kind.now in
    let table : List ℕ = c.args.self.now.table.now in
    let outcome : c.bytes.result.now ≡ outcome_text size (get_or table c.loop-p.p c.get.result.now) = c.bytes.ensures ∙ c.text-outcome.ensures ∙ ap (outcome_text size) (c.from.ensures ∙ at_item table c.loop-p.p c.get.result.now c.get.ensures) in
    let profile : c.bytes-in-loop-p.result.now ≡ profile_text size c.loop-p.p = c.bytes-in-loop-p.ensures ∙ c.profile_text-profile.ensures ∙ ap (λ (e : Extent). profile_text e c.loop-p.p) c.space.ensures in
    spelled_stops (row_text size) table 0 c.loop-p.p c.get.result.now _ _ _ _ _ _ c.loop-p.invariant _ _ _ c.in_err-pour.field-0.0 c.from_residual.result _ (omega arith)
    (row_is size c.loop-p.p (get_or table c.loop-p.p c.get.result.now) _ _ profile outcome) c.from_residual.ensures.0 c.in_err-pour.ensures

pub loop-p-preserved : goal.loop-p-preserved
loop-p-preserved g c =
    let size : Extent = g.K.OutcomeKind.size c.args.self.now.kind.now in
    let table : List ℕ = c.args.self.now.table.now in
    let outcome : c.bytes.result.now ≡ outcome_text size (get_or table c.loop-p.p c.get.result.now) = c.bytes.ensures ∙ c.text-outcome.ensures ∙ ap (outcome_text size) (c.from.ensures ∙ at_item table c.loop-p.p c.get.result.now c.get.ensures) in
    let profile : c.bytes-in-loop-p.result.now ≡ profile_text size c.loop-p.p = c.bytes-in-loop-p.ensures ∙ c.profile_text-profile.ensures ∙ ap (λ (e : Extent). profile_text e c.loop-p.p) c.space.ensures in
    spelled_goes_on (row_text size) table 0 c.loop-p.p c.get.result.now _ _ _ _ _ _ c.loop-p.invariant _ _ _ c.in_ok-pour.field-0 _ (omega arith)
    (row_is size c.loop-p.p (get_or table c.loop-p.p c.get.result.now) _ _ profile outcome) c.in_ok-pour.ensures
