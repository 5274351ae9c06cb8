use Rattle.profiles.proofs.TableLemmas.{places_at}
use Rattle.profiles.proofs.tables.place_at.Goals as goal

pub returns : goal.returns
returns c = places_at c.args.ballot c.args.alternative _ c.requires.ballot c.requires.alternative
