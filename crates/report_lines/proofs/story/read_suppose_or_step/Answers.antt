use Rattle.std.proofs.Common.{◌∙◌, sym}
use Rattle.verdicts.specs.Reading.{read_suppose, read_step}
use Rattle.verdicts.specs.Texts.{words_of}
use Rattle.report_lines.specs.Held.{held_line}
use Rattle.report_lines.proofs.LineLemmas.{or_told}
use Rattle.report_lines.proofs.story.read_suppose_or_step.Goals as goal

pub returns : goal.returns
returns c = λ number.
    let study = c.args.study.now in
    let words = words_of c.args.text.now in
    or_told (held_line study) (read_suppose study words) (read_step study words) c.read_step.result (sym c.in_default.is ∙ c.read_suppose.ensures) (c.read_step.ensures number)
