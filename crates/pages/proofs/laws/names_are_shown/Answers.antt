use Rattle.pages.proofs.NameLemmas.{all_shown}
use Rattle.pages.proofs.laws.names_are_shown.Goals as goal

pub returns : goal.returns
returns c = all_shown
