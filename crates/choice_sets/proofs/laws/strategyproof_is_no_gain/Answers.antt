use Rattle.choice_sets.proofs.KellyLaws.{strategyproof_says}
use Rattle.choice_sets.proofs.laws.strategyproof_is_no_gain.Goals as goal

pub returns : goal.returns
returns c = strategyproof_says
