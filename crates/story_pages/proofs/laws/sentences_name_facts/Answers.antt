use Rattle.story_pages.proofs.SentenceLemmas.{names}
use Rattle.story_pages.proofs.laws.sentences_name_facts.Goals as goal

pub returns : goal.returns
returns c = names
