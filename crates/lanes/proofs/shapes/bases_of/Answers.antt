use Rattle.std.proofs.Common.{arith}
use Rattle.lanes.proofs.InstanceLemmas.{few_values}
use Rattle.lanes.proofs.shapes.bases_of.Goals as goal

pub bases_after-requires : goal.bases_after-requires
bases_after-requires g c =
    let few = few_values (g.K.OutcomeKind.size c.args.kind.now) c.args.named.now c.requires in
    record { room = rw (c.none.ensures, c.space.ensures, c.sentence.ensures) (omega (arith, few)) }
