use Rattle.report_files.proofs.ReaderLemmas.{on_ok}
use Rattle.report_files.proofs.line_checker.LineChecker.take.Goals as goal

pub returns-clause-taken : goal.returns-clause-taken
returns-clause-taken g c = on_ok c.give.result c.give.ensures.taken (λ taken lines stands. taken lines (c.in_ok-begin.ensures.stands lines stands))
