use Rattle.std.proofs.Common.{◌-◌, length}
use Rattle.texts.proofs.PageLemmas.{Poured}
use Rattle.texts.proofs.page.Page.put.Given as goal

abbrev pub invariant-loop-done : goal.invariant-loop-done
invariant-loop-done g l = Poured (g.K.Sink.taken l.initial.out) (g.K.Sink.taken l.out) l.initial.self l.self (g.K.Sink.faults l.initial.out) (g.K.Sink.faults l.out) l.piece l.done

abbrev pub decreases-loop-done : goal.decreases-loop-done
decreases-loop-done g l = length l.piece - l.done
