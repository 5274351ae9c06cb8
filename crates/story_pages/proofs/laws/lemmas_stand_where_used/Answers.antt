use Rattle.story_pages.proofs.PlaceLemmas.{stand_where_used}
use Rattle.story_pages.proofs.laws.lemmas_stand_where_used.Goals as goal

pub returns : goal.returns
returns c = stand_where_used
