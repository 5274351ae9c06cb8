use Rattle.story_pages.proofs.PlaceLemmas.{stand}
use Rattle.story_pages.proofs.laws.lemmas_stand.Goals as goal

pub returns : goal.returns
returns c = stand
