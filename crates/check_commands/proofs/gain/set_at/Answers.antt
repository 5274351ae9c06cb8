use Rattle.meaning.proofs.RuleLaws.{rule_outcome}
use Rattle.check_commands.proofs.gain.set_at.Goals as goal

pub text-requires : goal.text-requires
text-requires c = rw c.from.ensures (rule_outcome c.args.kind.now.space c.args.table.now c.args.profile c.get.result.now c.requires.rule c.get.ensures)
