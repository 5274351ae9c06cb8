use Rattle.story_pages.proofs.PlaceLemmas.{forced_stand}
use Rattle.story_pages.proofs.laws.forced_facts_stand.Goals as goal

pub returns : goal.returns
returns c = forced_stand
