use Rattle.std.proofs.Common.{ap, ◌∙◌, length}
use Rattle.report.proofs.TableLineLemmas.{in_below}
use Rattle.report.proofs.judging.Judging.take_rule.Goals as goal

pub check-requires-clause-places : goal.check-requires-clause-places
check-requires-clause-places g c κs within =
    in_below c.as_slice.result.now c.len.result _ (c.as_slice.ensures.value ∙ c.in_ok-places.ensures) (c.len.ensures ∙ ap length c.axioms.ensures.axioms)
