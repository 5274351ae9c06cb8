use Rattle.answers.proofs.DeviceLaws.{none_touched}
use Rattle.answers.proofs.laws.other_words_touch_none.Goals as goal

pub returns : goal.returns
returns c = none_touched
