use Rattle.story_pages.proofs.SentenceLemmas.{claims_stand}
use Rattle.story_pages.proofs.laws.claims_stand_there.Goals as goal

pub returns : goal.returns
returns c = claims_stand
