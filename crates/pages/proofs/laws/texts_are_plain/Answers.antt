use Rattle.pages.proofs.EscapeLemmas.{plain_text}
use Rattle.pages.proofs.laws.texts_are_plain.Goals as goal

pub returns : goal.returns
returns c = plain_text
