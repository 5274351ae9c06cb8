use Rattle.std.proofs.Common.{refl}
use Rattle.grounding.proofs.literals.LiteralAlgebraAlgebra.literal.Goals as goal

pub returns-clause-ok : goal.returns-clause-ok
returns-clause-ok g c = record { literal = c.args.literal.now; of_size = c.requires; fact = refl; variable = c.lit.ensures }
