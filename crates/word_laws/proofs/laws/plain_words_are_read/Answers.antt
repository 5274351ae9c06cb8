use Rattle.word_laws.proofs.WordLemmas.{plain}
use Rattle.word_laws.proofs.laws.plain_words_are_read.Goals as goal

pub returns : goal.returns
returns c = plain
