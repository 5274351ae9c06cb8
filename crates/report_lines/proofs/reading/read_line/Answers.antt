use Rattle.std.proofs.Common.{arith}
use Rattle.report_lines.proofs.PlaceLemmas.{long_line, short_line}
use Rattle.report_lines.proofs.reading.read_line.Goals as goal

pub returns-then-text-gt-LONGEST : goal.returns-then-text-gt-LONGEST
returns-then-text-gt-LONGEST g c = λ s place number. long_line c.args.study.now s c.args.text.now (omega arith)

pub returns-else-text-gt-LONGEST : goal.returns-else-text-gt-LONGEST
returns-else-text-gt-LONGEST g c = λ s place number. short_line c.args.study.now s c.args.text.now (omega arith) c.args.place c.args.number c.read_at.result place number c.read_at.ensures
