use Rattle.std.proofs.Common.{sym, ◌∙◌}
use Rattle.sentence_fronts.proofs.Stacks.{step_found, step_refused, passes_more}
use Rattle.sentence_fronts.proofs.steps.step.Goals as goal

pub returns-in-Some-expected_after : goal.returns-in-Some-expected_after
returns-in-Some-expected_after c = step_found _ _ _ _ _ _ c.loop-top.invariant c.in-Some.ensures.cases.0 c.in-Some-expected_after.ensures

pub returns-then-not-may_end : goal.returns-then-not-may_end
returns-then-not-may_end c = step_refused _ _ _ _ _ c.loop-top.invariant c.in-Some.ensures.cases.0 c.in_default-expected_after.ensures (sym c.may_end.ensures ∙ c.if-not-may_end.true)

pub loop-top-preserved : goal.loop-top-preserved
loop-top-preserved c = passes_more _ _ _ _ _ c.loop-top.invariant c.in-Some.ensures.cases.0 c.in_default-expected_after.ensures (sym c.may_end.ensures ∙ c.if-not-may_end.false)
