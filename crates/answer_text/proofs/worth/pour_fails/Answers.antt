use Rattle.std.proofs.Common.{ap, ℕ, List, ◌∷◌, ◌++◌, codes}
use Rattle.verdicts.proofs.PrintLaws.{decimal_is}
use Rattle.texts.proofs.PourLemmas.{renamed}
use Rattle.answer_text.proofs.worth.pour_fails.Goals as goal

pub returns : goal.returns
returns g c = renamed _ _ _ _ _ _ c.pour.result _ _ (ap (λ (n : List ℕ). codes "fails " ++ (c.args.name.now ++ (32 ∷ n))) (decimal_is c.args.instance c.ranges.instance.fits)) (rw c.bytes.ensures at c.pour.ensures)
