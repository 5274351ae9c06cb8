use Rattle.vocab.proofs.Ranges.{goes_on}
use Rattle.pages.specs.Witnesses.{witness_at}
use Rattle.pages.proofs.witnesses.put_marks.Goals as goal

pub loop-place-preserved : goal.loop-place-preserved
loop-place-preserved g c = goes_on (witness_at (g.K.OutcomeKind.size c.args.kind.now) c.args.axioms.now c.args.core.now c.args.witnesses.now) _ _ _ _ c.loop-place.invariant c.in_ok-put_witness_at.ensures
