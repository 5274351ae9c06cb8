use Rattle.std.proofs.Common.{◌≡◌, Some, slice_get}
use Rattle.study_text.specs.Shares.{shares_of}
use Rattle.study_text.proofs.CountLemmas.{taken_more}
use Rattle.study_text.proofs.shares.add_axioms.Goals as goal

pub loop-place-preserved : goal.loop-place-preserved
loop-place-preserved c =
    let at : slice_get c.args.study.now.axioms c.loop-place.place ≡ Some c.get.result.now = rw c.axioms-axioms.ensures.axioms at c.get.ensures in
    taken_more (shares_of c.args.study.now.size) c.args.study.now.axioms c.loop-place.place c.get.result.now _ _ _ at c.loop-place.invariant c.in_ok-add_axiom.ensures
