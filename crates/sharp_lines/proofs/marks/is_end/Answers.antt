use Rattle.std.proofs.Common.{arith}
use Rattle.sharp_lines.proofs.NeedLemmas.{end_is}
use Rattle.sharp_lines.proofs.marks.is_end.Goals as goal

pub returns : goal.returns
returns c = λ study. end_is study c.args.text.now c.is_same.result c.is_same.ensures (omega (arith, c.if-text-gt-LONGEST.false))
