use Rattle.vocab.proofs.Ranges.{goes_on}
use Rattle.pages.specs.Theorem.{lettered_html}
use Rattle.pages.proofs.theorem.put_letters.Goals as goal

pub loop-x-preserved : goal.loop-x-preserved
loop-x-preserved c = goes_on (lettered_html) _ _ _ _ c.loop-x.invariant c.in_ok-put_lettered.ensures
