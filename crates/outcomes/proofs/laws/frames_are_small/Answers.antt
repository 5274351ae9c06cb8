use Rattle.outcomes.proofs.SmallFrames.{frames_small}
use Rattle.outcomes.proofs.laws.frames_are_small.Goals as goal

pub returns : goal.returns
returns g c = frames_small (g.K.OutcomeKind.size c.args.kind.now) c.kinds_have_sizes.ensures
