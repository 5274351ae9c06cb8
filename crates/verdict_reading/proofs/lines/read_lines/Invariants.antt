use Rattle.std.proofs.Common.{length}
use Rattle.sharp_verdicts.specs.Judged.{has_sharp_title}
use Rattle.verdict_reading.proofs.LineLemmas.{HasRead}
use Rattle.verdict_reading.proofs.lines.read_lines.Given as goal

abbrev pub invariant-loop-first : goal.invariant-loop-first
invariant-loop-first g l = HasRead l.subject.setting.study.now (has_sharp_title l.text) l.collector l.text l.rest l.line

abbrev pub decreases-loop-first : goal.decreases-loop-first
decreases-loop-first g l = length l.rest
