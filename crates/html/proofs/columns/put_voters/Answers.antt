use Rattle.vocab.proofs.Ranges.{goes_on}
use Rattle.html.specs.Columns.{voter_html}
use Rattle.html.proofs.columns.put_voters.Goals as goal

pub loop-i-preserved : goal.loop-i-preserved
loop-i-preserved c = goes_on voter_html _ _ _ _ c.loop-i.invariant c.in_ok-put_voter.ensures
