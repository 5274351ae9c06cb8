use Rattle.std.proofs.Common.{[], inr, sym, subst}
use Rattle.vocab.specs.Study.{Question}
use Rattle.report.specs.Stands.{StandsFor}
use Rattle.report_files.proofs.line_checker.LineChecker.new.Goals as goal

pub invariant_of-result : goal.invariant_of-result
invariant_of-result g c = (inr ([], subst (λ (q : Question). StandsFor q c.in_ok-report.report.progress []) (sym c.in_ok-report.ensures.study) c.in_ok-report.ensures.stands), tt)
