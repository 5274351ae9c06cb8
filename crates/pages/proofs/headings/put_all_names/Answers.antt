use Rattle.vocab.proofs.Ranges.{goes_on}
use Rattle.pages.specs.Headings.{own_name}
use Rattle.pages.proofs.headings.put_all_names.Goals as goal

pub loop-place-preserved : goal.loop-place-preserved
loop-place-preserved c = goes_on (own_name c.args.marked c.args.axioms.now c.args.count) _ _ _ _ c.loop-place.invariant c.in_ok-put_own_name.ensures
