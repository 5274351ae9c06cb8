use Rattle.outcomes.proofs.BitLaws.{say_literals}
use Rattle.outcomes.proofs.laws.bits_say_literals.Goals as goal

pub returns : goal.returns
returns g c = say_literals (g.K.OutcomeKind.size c.args.kind.now)
