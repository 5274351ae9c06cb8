use Rattle.word_laws.proofs.OddWordLemmas.{odd}
use Rattle.word_laws.proofs.laws.odd_words_are_read.Goals as goal

pub returns : goal.returns
returns c = odd
