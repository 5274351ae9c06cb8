use Rattle.sharp_laws.proofs.AnswerLaws.{judge_complete}
use Rattle.sharp_laws.proofs.laws.sharp_judge_is_complete.Goals as goal

pub returns : goal.returns
returns c = judge_complete
