use Rattle.verdicts.proofs.PrintLaws.{decimal_is}
use Rattle.texts.proofs.PourLemmas.{renamed}
use Rattle.clause_text.proofs.literals.pour_number.Goals as goal

pub returns : goal.returns
returns g c = renamed _ _ _ _ _ _ c.pour.result _ _ (decimal_is c.args.number c.ranges.number.fits) c.pour.ensures
