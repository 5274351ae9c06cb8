use Rattle.outcomes.proofs.BitLaws.{says_one_outcome}
use Rattle.outcomes.proofs.laws.frames_say_one_outcome.Goals as goal

pub returns : goal.returns
returns g c = says_one_outcome (g.K.OutcomeKind.size c.args.kind.now)
