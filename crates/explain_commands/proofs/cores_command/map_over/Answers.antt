use Rattle.std.proofs.Common.{rules}
use Rattle.explain_parts.proofs.StudyReplies.{no_clauses}
use Rattle.explain_commands.proofs.CoresReplies.{has_names, mapped}
use Rattle.explain_commands.proofs.cores_command.map_over.Goals as goal

pub returns-in-Err : goal.returns-in-Err
returns-in-Err g c = record {
  row = no_clauses c.args.whole.study c.in-Err.fault _ (λ e. search rules) c.in-Err.ensures.fault;
  has_text = tt;
  read = λ e. absurd (cc);
}

pub returns : goal.returns
returns g c = record {
  row = mapped c.args.whole.study c.in_ok-map.map c.in-Ok.ensures.none c.in_ok-map.ensures;
  has_text = has_names c.args.whole.study c.in_ok-map.map c.in_ok-map.ensures;
  read = λ e. absurd (cc);
}
