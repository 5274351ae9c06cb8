use Rattle.std.proofs.Common.{◌≡◌, Some, slice_get}
use Rattle.clause_tests.proofs.lanes_tests.tally_over.Goals as goal
use Rattle.vocab.proofs.StudyLaws.{few_at, sentence_at}

pub tally_of-requires-clause-sentence : goal.tally_of-requires-clause-sentence
tally_of-requires-clause-sentence g c κs within =
    let at : slice_get c.args.study.now.axioms 0 ≡ Some c.get.result.now = rw c.axioms-axioms.ensures.axioms at c.get.ensures in
    rw (← c.requires.size) (sentence_at c.args.study.now 0 c.get.result.now c.axioms-axioms.ensures.study at)

pub tally_of-requires-clause-few : goal.tally_of-requires-clause-few
tally_of-requires-clause-few g c κs within =
    let at : slice_get c.args.study.now.axioms 0 ≡ Some c.get.result.now = rw c.axioms-axioms.ensures.axioms at c.get.ensures in
    rw (← c.requires.size) (few_at c.args.study.now 0 c.get.result.now c.axioms-axioms.ensures.study at)
