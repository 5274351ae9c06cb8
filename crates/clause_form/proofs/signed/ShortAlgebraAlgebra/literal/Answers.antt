use Rattle.std.proofs.Common.{refl}
use Rattle.clause_form.proofs.signed.ShortAlgebraAlgebra.literal.Goals as goal

pub returns-clause-ok : goal.returns-clause-ok
returns-clause-ok g c = (c.args.literal.now, record { literal = c.requires; fact = refl }, c.lit.ensures)
