use Rattle.vocab.specs.Limits.{bases_of}
use Rattle.lanes.proofs.StrideLaws.{AreDigits}
use Rattle.lanes.proofs.instances.values_at.Given as goal

abbrev pub invariant-loop-k : goal.invariant-loop-k
invariant-loop-k g l = AreDigits (bases_of (g.K.OutcomeKind.size l.kind) l.named.sentence) l.number l.k l.rest l.values
