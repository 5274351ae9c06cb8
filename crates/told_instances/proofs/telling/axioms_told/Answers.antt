use Rattle.std.proofs.Common.{◌∙◌, sym, true, false}
use Rattle.sharp_verdicts.specs.Instances.{is_axiom_told}
use Rattle.told_instances.proofs.ToldLaws.{kept_more}
use Rattle.told_instances.proofs.telling.axioms_told.Goals as goal
use Rattle.told_instances.proofs.telling.axioms_told.Goals.{then-is_told+in_ok-push, else-is_told}

pub loop-k-preserved : goal.loop-k-preserved
loop-k-preserved c = elim c.if-is_told.branch [
  | then-is_told+in_ok-push w ↦ kept_more (is_axiom_told c.args.story.now) c.loop-k.k c.loop-k.core _ true c.loop-k.invariant (sym c.is_told.ensures ∙ w.if-is_told.true) (w.core-is ∙ w.in_ok-push.ensures.ok)
  | else-is_told w ↦ kept_more (is_axiom_told c.args.story.now) c.loop-k.k c.loop-k.core _ false c.loop-k.invariant (sym c.is_told.ensures ∙ w.if-is_told.false) w.core-is
]
