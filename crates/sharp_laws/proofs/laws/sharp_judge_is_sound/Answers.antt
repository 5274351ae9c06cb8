use Rattle.sharp_laws.proofs.JudgeLaws.{judge_sound}
use Rattle.sharp_laws.proofs.laws.sharp_judge_is_sound.Goals as goal

pub returns : goal.returns
returns c = judge_sound
