use Rattle.closing.proofs.SentenceLaws.{are_sentences}
use Rattle.closing.proofs.laws.closed_bodies_are_sentences.Goals as goal

pub returns : goal.returns
returns c = are_sentences
