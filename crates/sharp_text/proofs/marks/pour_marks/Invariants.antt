use Rattle.std.proofs.Common.{take}
use Rattle.sharp_text.proofs.SharpLemmas.{mark_text}
use Rattle.texts.specs.Spelled.{spelled}
use Rattle.texts.proofs.PourLemmas.{Added}
use Rattle.sharp_text.proofs.marks.pour_marks.Given as goal

-- the texts so far were added
abbrev pub invariant-loop-place : goal.invariant-loop-place
invariant-loop-place g l = Added (g.O.Sink.taken l.initial.out) (g.O.Sink.taken l.out) l.initial.page l.page (g.O.Sink.faults l.initial.out) (g.O.Sink.faults l.out) (spelled (mark_text l.setting.study.now l.instances) 0 (take l.place l.marks))
