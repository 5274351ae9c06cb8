use Rattle.vocab.proofs.Ranges.{goes_on}
use Rattle.pages.specs.Headings.{name_in}
use Rattle.pages.proofs.headings.put_names.Goals as goal

pub loop-place-preserved : goal.loop-place-preserved
loop-place-preserved c = goes_on (name_in c.args.marked c.args.axioms.now c.args.places.now) _ _ _ _ c.loop-place.invariant c.in_ok-put_name_in.ensures
