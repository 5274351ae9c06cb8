use Rattle.explain_commands.proofs.LookReplies.{told_look}
use Rattle.explain_commands.proofs.study_command.look_bytes.Goals as goal

pub returns-in-Ok : goal.returns-in-Ok
returns-in-Ok g c = record {
  said = told_look c.args.bytes.now c.in-Ok.study c.look_study.result c.in-Ok.ensures.ok c.look_study.ensures.row;
  has_text = c.look_study.ensures.has_text;
  read = c.look_study.ensures.read;
}
