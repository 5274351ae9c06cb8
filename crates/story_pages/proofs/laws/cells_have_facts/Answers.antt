use Rattle.story_pages.proofs.SentenceLemmas.{cells}
use Rattle.story_pages.proofs.laws.cells_have_facts.Goals as goal

pub returns : goal.returns
returns c = cells
