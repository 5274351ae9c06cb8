use Rattle.std.proofs.Common.{take}
use Rattle.texts.specs.Spelled.{spelled}
use Rattle.report_text.proofs.ReportLemmas.{row_text}
use Rattle.texts.proofs.PourLemmas.{Added}
use Rattle.report_text.proofs.rules.RowsText.pour.Given as goal

-- the texts so far were added
abbrev pub invariant-loop-p : goal.invariant-loop-p
invariant-loop-p g l = Added (g.O.Sink.taken l.initial.out) (g.O.Sink.taken l.out) l.initial.page l.page (g.O.Sink.faults l.initial.out) (g.O.Sink.faults l.out) (spelled (row_text (g.K.OutcomeKind.size l.self.kind.now)) 0 (take l.p l.self.table.now))
