use Rattle.vocab.proofs.Ranges.{goes_on}
use Rattle.story_pages.specs.Claims.{winning_html}
use Rattle.story_pages.proofs.claims.put_all_winning.Goals as goal

pub loop-x-preserved : goal.loop-x-preserved
loop-x-preserved g c = goes_on (winning_html (g.P.Phrases.phrase c.args.phrases.now)) _ _ _ _ c.loop-x.invariant c.in_ok-put_winning.ensures
