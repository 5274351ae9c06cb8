use Rattle.answer_text.proofs.LineLemmas.{lines_of_judged}
use Rattle.answer_text.proofs.laws.lines_are_of_judged.Goals as goal

pub returns : goal.returns
returns c = lines_of_judged
