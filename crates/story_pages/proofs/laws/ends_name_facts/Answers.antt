use Rattle.story_pages.proofs.SentenceLemmas.{ends}
use Rattle.story_pages.proofs.laws.ends_name_facts.Goals as goal

pub returns : goal.returns
returns c = ends
