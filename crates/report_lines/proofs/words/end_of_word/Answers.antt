use Rattle.report_lines.proofs.WordLemmas.{end_none}
use Rattle.report_lines.proofs.words.end_of_word.Goals as goal

pub returns-in-None-clause-place : goal.returns-in-None-clause-place
returns-in-None-clause-place c = end_none c.args.text.now c.in-None.ensures
