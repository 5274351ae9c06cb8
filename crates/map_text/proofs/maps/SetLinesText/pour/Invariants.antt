use Rattle.std.proofs.Common.{take}
use Rattle.std.specs.List.{flat_map}
use Rattle.texts.proofs.PourLemmas.{Added}
use Rattle.map_text.specs.MapText.{set_text}
use Rattle.map_text.proofs.maps.SetLinesText.pour.Given as goal

-- the lines so far were added
abbrev pub invariant-loop-place : goal.invariant-loop-place
invariant-loop-place g l =
    Added (g.O.Sink.taken l.initial.out) (g.O.Sink.taken l.out) l.initial.page l.page (g.O.Sink.faults l.initial.out) (g.O.Sink.faults l.out)
    (flat_map (set_text l.self.study.now l.self.word.now) (take l.place l.self.sets.now))
