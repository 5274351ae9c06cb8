use Rattle.std.proofs.Common.{◌≡◌, Some, arith}
use Rattle.std.specs.Prelude.{slice_get}
use Rattle.sharp_report.proofs.FailingLemmas.{number_within}
use Rattle.sharp_report.proofs.failing.is_true.Goals as goal
use Rattle.vocab.proofs.StudyLaws.{few_at, sentence_at}

pub overflow_add-cited : goal.overflow_add-cited
overflow_add-cited g c =
    let at : slice_get c.args.study.now.axioms c.args.cited.now.«axiom» ≡ Some c.get-axiom.result.now = rw c.axioms.ensures.axioms at c.get-axiom.ensures in
    omega (arith, number_within c.args.study.now c.args.cited.now c.get-axiom.result.now c.requires.present at, few_at c.args.study.now c.args.cited.now.«axiom» c.get-axiom.result.now c.axioms.ensures.study at)

pub first_failure-requires-clause-sentence : goal.first_failure-requires-clause-sentence
first_failure-requires-clause-sentence g c = λ κs within.
    let at : slice_get c.args.study.now.axioms c.args.cited.now.«axiom» ≡ Some c.get-axiom.result.now = rw c.axioms.ensures.axioms at c.get-axiom.ensures in
    rw (← c.requires.size) (sentence_at c.args.study.now c.args.cited.now.«axiom» c.get-axiom.result.now c.axioms.ensures.study at)
