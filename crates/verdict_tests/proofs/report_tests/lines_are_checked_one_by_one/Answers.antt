use Rattle.std.proofs.Common.{[], inr, sym, subst}
use Rattle.vocab.specs.Study.{Question}
use Rattle.report.specs.Stands.{StandsForSome}
use Rattle.verdict_tests.proofs.report_tests.lines_are_checked_one_by_one.Goals as goal

pub checks_to_the_end-requires-clause-ready : goal.checks_to_the_end-requires-clause-ready
checks_to_the_end-requires-clause-ready g c = λ κs.
    subst (λ (study : Question). StandsForSome study c.in_ok-checker.checker.progress) (sym c.in_ok-checker.ensures.study)
    (inr ([], c.in_ok-checker.ensures.stands))
