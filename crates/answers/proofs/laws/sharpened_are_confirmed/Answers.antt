use Rattle.answers.proofs.SharpenLaws.{sharpened_confirmed}
use Rattle.answers.proofs.laws.sharpened_are_confirmed.Goals as goal

pub returns : goal.returns
returns c = sharpened_confirmed
