use Rattle.profiles.proofs.TableLemmas.{alternative_below}
use Rattle.profiles.proofs.tables.alternative_at.Goals as goal

pub returns-clause-small : goal.returns-clause-small
returns-clause-small c = alternative_below c.args.ballot c.args.place c.requires.ballot c.requires.place
