use Rattle.std.proofs.Common.{rules, refl}
use Rattle.answers.specs.Grounding.{clauses_made}
use Rattle.explain_parts.proofs.StudyReplies.{no_clauses}
use Rattle.explain_commands.proofs.study_command.look_over.Goals as goal

pub returns-in-Err : goal.returns-in-Err
returns-in-Err g c = record {
  row = no_clauses c.args.study c.in-Err.fault _ (λ e. search rules) c.in-Err.ensures.fault;
  has_text = tt;
  read = λ e. absurd (cc);
}

pub returns : goal.returns
returns g c = record {
  row = clauses_made c.in-Ok.ensures.none (record { ends = refl; lines = c.in_ok-look.ensures });
  has_text = tt;
  read = λ e. absurd (cc);
}
