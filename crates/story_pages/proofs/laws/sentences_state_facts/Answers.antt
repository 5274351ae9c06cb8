use Rattle.story_pages.proofs.SentenceLemmas.{states}
use Rattle.story_pages.proofs.laws.sentences_state_facts.Goals as goal

pub returns : goal.returns
returns c = states
