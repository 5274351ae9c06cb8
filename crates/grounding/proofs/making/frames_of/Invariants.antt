use Rattle.grounding.proofs.FrameLemmas.{AreFramesTo}
use Rattle.grounding.proofs.making.frames_of.Given as goal

abbrev pub invariant-loop-p : goal.invariant-loop-p
invariant-loop-p g l = AreFramesTo (g.K.OutcomeKind.size l.kind) l.p l.out
