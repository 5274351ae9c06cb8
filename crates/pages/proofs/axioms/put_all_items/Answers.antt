use Rattle.vocab.proofs.Ranges.{goes_on}
use Rattle.pages.specs.Theorem.{axiom_item}
use Rattle.pages.proofs.axioms.put_all_items.Goals as goal

pub loop-place-preserved : goal.loop-place-preserved
loop-place-preserved c = goes_on (axiom_item c.args.space.now c.args.axioms.now) _ _ _ _ c.loop-place.invariant c.in_ok-put_axiom_item.ensures
