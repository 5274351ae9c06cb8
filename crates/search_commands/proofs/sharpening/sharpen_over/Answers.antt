use Rattle.std.proofs.Common.{rules}
use Rattle.answers.specs.Grounding.{clauses_made}
use Rattle.search_commands.proofs.ClauseLemmas.{no_clauses}
use Rattle.search_commands.proofs.SharpenLemmas.{narrow, over_row}
use Rattle.search_commands.proofs.sharpening.sharpen_over.Goals as goal

pub check_total-requires-clause-narrow : goal.check_total-requires-clause-narrow
check_total-requires-clause-narrow g c κs within = narrow c.args.whole.study c.in-Ok.ensures.none

pub returns-in-Err : goal.returns-in-Err
returns-in-Err g c = record {
  row = no_clauses c.args.whole.study c.in-Err.fault _ (λ e. search rules) c.in-Err.ensures.fault;
  has_text = tt;
  read = λ e. absurd (cc);
}

pub returns-in-Err-Over-clause-row : goal.returns-in-Err-Over-clause-row
returns-in-Err-Over-clause-row g c =
    rw c.in-Err-Over.field-0-is
    (clauses_made c.in-Ok.ensures.none (over_row c.args.whole.study c.in-Err-Over.counts (rw c.in-Err-Over.field-0-is at c.in-Err-Over.ensures.err)))

pub returns-clause-row : goal.returns-clause-row
returns-clause-row g c = clauses_made c.in-Ok.ensures.none c.in_ok-answer_of.ensures.row
