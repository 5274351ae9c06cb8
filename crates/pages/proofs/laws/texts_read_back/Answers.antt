use Rattle.html.proofs.ReadingLemmas.{reads_back}
use Rattle.pages.proofs.laws.texts_read_back.Goals as goal

pub returns : goal.returns
returns c = reads_back
