use Rattle.pages.proofs.NameReading.{names_read_back}
use Rattle.pages.proofs.laws.names_read_back.Goals as goal

pub returns : goal.returns
returns c = names_read_back
