use Rattle.vocab.proofs.Ranges.{goes_on}
use Rattle.sharp_pages.specs.SharpPages.{instance_html_at}
use Rattle.sharp_pages.proofs.instances.put_all.Goals as goal

pub loop-place-preserved : goal.loop-place-preserved
loop-place-preserved c = goes_on (instance_html_at c.args.axioms.now c.args.instances.now c.args.marks.now) _ _ _ _ c.loop-place.invariant c.in_ok-put_instance_at.ensures
