use Rattle.std.proofs.Common.{◌∙◌, sym}
use Rattle.report_lines.specs.Held.{held_line}
use Rattle.report_lines.proofs.LineLemmas.{is_first, is_second, no_title}
use Rattle.report_lines.proofs.head.read_title.Goals as goal

pub returns-then-is_same : goal.returns-then-is_same
returns-then-is_same c = λ study number. is_first (held_line study) c.args.text.now (sym c.is_same.ensures ∙ c.if-is_same.true)

pub returns-then-is_same-2 : goal.returns-then-is_same-2
returns-then-is_same-2 c = λ study number. is_second (held_line study) c.args.text.now (sym c.is_same-else-is_same.ensures ∙ c.if-is_same-2.true)

pub returns-else-is_same-2 : goal.returns-else-is_same-2
returns-else-is_same-2 c = λ study number.
    no_title (held_line study) c.args.text.now (sym c.is_same.ensures ∙ c.if-is_same.false) (sym c.is_same-else-is_same.ensures ∙ c.if-is_same-2.false)
