use Rattle.std.proofs.Common.{ℕ, take}
use Rattle.std.specs.Prelude.{slice_index}
use Rattle.meaning.specs.declared.cores.Witness.{Witness}
use Rattle.verdicts.specs.Report.{witness_lines}
use Rattle.report_text.specs.Pieces.{lines_text}
use Rattle.texts.specs.Spelled.{spelled}
use Rattle.texts.proofs.PourLemmas.{Added}
use Rattle.report_text.proofs.rules.pour_witnesses.Given as goal

-- the texts so far were added
abbrev pub invariant-loop-place : goal.invariant-loop-place
invariant-loop-place g l = Added (g.O.Sink.taken l.initial.out) (g.O.Sink.taken l.out) l.initial.page l.page (g.O.Sink.faults l.initial.out) (g.O.Sink.faults l.out) (spelled (λ (i : ℕ) (w : Witness). lines_text l.setting.study.now (witness_lines l.setting.study.now (slice_index l.core i) w)) 0 (take l.place l.witnesses))
