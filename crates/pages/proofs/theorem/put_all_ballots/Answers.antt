use Rattle.vocab.proofs.Ranges.{goes_on}
use Rattle.pages.specs.Theorem.{listed_ballot_html}
use Rattle.pages.proofs.theorem.put_all_ballots.Goals as goal

pub loop-b-preserved : goal.loop-b-preserved
loop-b-preserved c = goes_on (listed_ballot_html c.args.space.now) _ _ _ _ c.loop-b.invariant c.in_ok-put_listed.ensures
