use Rattle.std.proofs.Common.{arith}
use Rattle.lanes.proofs.InstanceLemmas.{few_values}
use Rattle.lanes.proofs.instances.strides_of.Goals as goal

pub strides_after-requires-clause-room : goal.strides_after-requires-clause-room
strides_after-requires-clause-room g c =
    let few = few_values (g.K.OutcomeKind.size c.args.kind.now) c.args.named.now c.requires.sentence in
    rw (c.none.ensures, c.space.ensures, c.sentence.ensures) (omega (arith, few))
