use Rattle.std.proofs.Common.{rules}
use Rattle.search_commands.proofs.ClauseLemmas.{no_clauses}
use Rattle.search_commands.proofs.export.export_over.Goals as goal

pub returns-in-Err : goal.returns-in-Err
returns-in-Err g c = record {
  row = no_clauses c.args.whole.study c.in-Err.fault _ (λ e. search rules) c.in-Err.ensures.fault;
  has_text = tt;
  read = λ e. absurd (cc);
}
