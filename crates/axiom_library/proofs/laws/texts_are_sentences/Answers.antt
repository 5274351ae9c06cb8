use Rattle.axiom_library.proofs.Entries.{text_readable}
use Rattle.axiom_library.proofs.laws.texts_are_sentences.Goals as goal

pub returns : goal.returns
returns c = text_readable
