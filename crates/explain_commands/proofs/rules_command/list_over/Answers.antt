use Rattle.std.proofs.Common.{rules}
use Rattle.explain_parts.proofs.StudyReplies.{no_clauses}
use Rattle.explain_commands.proofs.RulesReplies.{are_rules_of, listed}
use Rattle.explain_commands.proofs.rules_command.list_over.Goals as goal

pub returns-in-Err : goal.returns-in-Err
returns-in-Err g c = record {
  row = no_clauses c.args.whole.study c.in-Err.fault _ (λ e. search rules) c.in-Err.ensures.fault;
  has_text = tt;
  read = λ e. absurd (cc);
}

pub returns : goal.returns
returns g c = record {
  row = listed c.args.whole.study c.args.most c.in_ok-list.list c.in-Ok.ensures.none c.in_ok-list.ensures;
  has_text = are_rules_of c.args.whole.study c.in_ok-list.list.tables c.in_ok-list.ensures.right;
  read = λ e. absurd (cc);
}
