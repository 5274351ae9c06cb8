use Rattle.answers.proofs.SharpenLaws.{sharpened_hold}
use Rattle.answers.proofs.laws.sharpened_holds.Goals as goal

pub returns : goal.returns
returns c = sharpened_hold
