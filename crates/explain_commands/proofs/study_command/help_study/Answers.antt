use Rattle.std.proofs.Common.{refl}
use Rattle.explain_answers.specs.Look.{refused}
use Rattle.explain_commands.proofs.study_command.help_study.Goals as goal

pub returns : goal.returns
returns c = record {
  said = refused c.args.fault c.in_ok-help.help c.requires c.in_ok-help.ensures refl refl;
  has_text = tt;
  read = λ e. absurd (cc);
}
