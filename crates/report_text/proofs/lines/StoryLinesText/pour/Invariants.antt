use Rattle.std.proofs.Common.{take}
use Rattle.verdicts.specs.Report.{lemma_lines}
use Rattle.report_text.specs.Pieces.{lines_text}
use Rattle.texts.specs.Spelled.{spelled}
use Rattle.texts.proofs.PourLemmas.{Added}
use Rattle.report_text.proofs.lines.StoryLinesText.pour.Given as goal

-- the lines so far were added
abbrev pub invariant-loop-place : goal.invariant-loop-place
invariant-loop-place g l = Added (g.O.Sink.taken l.initial.out) (g.O.Sink.taken l.out) l.initial.page l.page (g.O.Sink.faults l.initial.out) (g.O.Sink.faults l.out) (spelled (λ number lemma. lines_text l.self.of.study.now (lemma_lines number lemma)) 1 (take l.place l.self.lemmas.now))
