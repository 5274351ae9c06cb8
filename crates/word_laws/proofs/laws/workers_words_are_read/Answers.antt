use Rattle.word_laws.proofs.WordLemmas.{workers}
use Rattle.word_laws.proofs.laws.workers_words_are_read.Goals as goal

pub returns : goal.returns
returns c = workers
