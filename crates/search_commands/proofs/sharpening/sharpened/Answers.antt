use Rattle.sharp_verdicts.specs.Right.{pointed}
use Rattle.search_commands.proofs.SharpenLemmas.{sharpened_row}
use Rattle.search_commands.proofs.sharpening.sharpened.Goals as goal

pub returns-clause-row : goal.returns-clause-row
returns-clause-row g c = sharpened_row c.args.whole.study c.in_ok-sharp.sharp c.args.logs c.requires.total c.in_ok-sharp.ensures c.requires.spent

pub returns-clause-has_text : goal.returns-clause-has_text
returns-clause-has_text g c =
    c.right_sharp_verdicts_have_texts.ensures c.args.whole.study c.args.whole.reportable (pointed c.in_ok-sharp.sharp) c.in_ok-sharp.ensures.right
