use Rattle.verdicts.proofs.JudgeLaws.{judge_sound}
use Rattle.verdicts.proofs.laws.judge_is_sound.Goals as goal

pub returns : goal.returns
returns c = judge_sound
