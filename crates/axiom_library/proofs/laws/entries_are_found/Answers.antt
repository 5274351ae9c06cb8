use Rattle.axiom_library.proofs.Entries.{entry_found}
use Rattle.axiom_library.proofs.laws.entries_are_found.Goals as goal

pub returns : goal.returns
returns c = entry_found
