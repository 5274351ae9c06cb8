use Rattle.std.proofs.Common.{take}
use Rattle.std.specs.List.{flat_map}
use Rattle.axiom_library.specs.Library.{library}
use Rattle.texts.proofs.PourLemmas.{Added}
use Rattle.answers.specs.Axioms.{entry_line}
use Rattle.answer_text.proofs.library.LibraryLinesText.pour.Given as goal

-- the lines so far were added
abbrev pub invariant-loop-place : goal.invariant-loop-place
invariant-loop-place g l = Added (g.O.Sink.taken l.initial.out) (g.O.Sink.taken l.out) l.initial.page l.page (g.O.Sink.faults l.initial.out) (g.O.Sink.faults l.out) (flat_map entry_line (take l.place (library l.self.0)))
