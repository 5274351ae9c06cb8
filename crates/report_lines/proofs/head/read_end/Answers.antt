use Rattle.std.proofs.Common.{◌∙◌, sym}
use Rattle.report_lines.specs.Held.{held_line}
use Rattle.report_lines.proofs.LineLemmas.{no_end}
use Rattle.report_lines.proofs.head.read_end.Goals as goal

pub returns-else-is_same : goal.returns-else-is_same
returns-else-is_same c = λ study number claim. no_end (held_line study) c.args.text.now (sym c.is_same.ensures ∙ c.if-is_same.false)
