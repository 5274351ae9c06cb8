use Rattle.tellings.proofs.ForcedLaws.{come_first}
use Rattle.tellings.proofs.laws.forced_facts_come_first.Goals as goal

pub returns : goal.returns
returns c = come_first
