use Rattle.std.proofs.Common.{ap, ℕ, List, [], ◌∷◌, ◌++◌}
use Rattle.verdicts.proofs.PrintLaws.{decimal_is}
use Rattle.texts.proofs.PourLemmas.{renamed}
use Rattle.report_text.proofs.counts.pour_count.Goals as goal

pub returns : goal.returns
returns g c = renamed _ _ _ _ _ _ c.pour.result _ _ (ap (λ (n : List ℕ). c.args.key.now ++ (n ++ 10 ∷ [])) (decimal_is c.args.count c.ranges.count.fits)) c.pour.ensures
