use Rattle.std.proofs.Common.{take}
use Rattle.verdicts.specs.Lines.{Suppose}
use Rattle.report_text.specs.Pieces.{ended_line}
use Rattle.texts.specs.Spelled.{spelled}
use Rattle.texts.proofs.PourLemmas.{Added}
use Rattle.report_text.proofs.lines.SupposedText.pour.Given as goal

-- the lines so far were added
abbrev pub invariant-loop-literal : goal.invariant-loop-literal
invariant-loop-literal g l = Added (g.O.Sink.taken l.initial.out) (g.O.Sink.taken l.out) l.initial.page l.page (g.O.Sink.faults l.initial.out) (g.O.Sink.faults l.out) (spelled (λ _ x. ended_line l.self.of.study.now (Suppose x)) 0 (take l.literal-index l.self.literals.now))
