use Rattle.std.proofs.Common.{◌∙◌}
use Rattle.sentence_fronts.specs.Fronts.{no_more}
use Rattle.sentence_fronts.proofs.Places.{told_more, passed_more, told_all}
use Rattle.sentence_fronts.proofs.telling.told.Goals.{then-is_told+in_ok-push, else-is_told}
use Rattle.sentence_fronts.proofs.telling.told.Goals as goal

pub loop-kind-init : goal.loop-kind-init
loop-kind-init c = (c.kinds-kind-items.ensures, λ before x. rw c.new-next.ensures no_more)

pub loop-kind-preserved : goal.loop-kind-preserved
loop-kind-preserved c = (
  c.loop-kind.invariant.0,
  λ before x. elim c.if-is_told.branch [
    | then-is_told+in_ok-push w ↦ told_more before _ _ _ _ _ c.loop-kind-test.true (c.loop-kind.invariant.1 before x) (c.is_told.ensures.yes w.if-is_told.true before x) (w.next-is ∙ w.in_ok-push.ensures.ok)
    | else-is_told w ↦ passed_more before _ _ _ _ _ c.loop-kind-test.true (c.loop-kind.invariant.1 before x) (c.is_told.ensures.no w.if-is_told.false before x) w.next-is
  ],
)

pub returns : goal.returns
returns c = λ before x. told_all before _ _ _ _ c.loop-kind-test.false c.loop-kind.invariant.0 (c.loop-kind.invariant.1 before x)
