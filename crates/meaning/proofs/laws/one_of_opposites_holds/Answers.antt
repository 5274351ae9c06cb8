use Rattle.meaning.proofs.OppositeLaws.{opposites_differ}
use Rattle.meaning.proofs.laws.one_of_opposites_holds.Goals as goal

pub returns : goal.returns
returns c = λ size. opposites_differ size size.kind
