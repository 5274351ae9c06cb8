use Rattle.std.proofs.Common.{◌-◌, length}
use Rattle.texts.proofs.PageLemmas.{Drained}
use Rattle.texts.proofs.page.drain.Given as goal

abbrev pub invariant-loop-place : goal.invariant-loop-place
invariant-loop-place g l = Drained (g.K.Sink.taken l.initial.out) (g.K.Sink.taken l.out) (g.K.Sink.faults l.initial.out) (g.K.Sink.faults l.out) l.bytes l.initial.from l.place

abbrev pub decreases-loop-place : goal.decreases-loop-place
decreases-loop-place g l = length l.bytes - l.place
