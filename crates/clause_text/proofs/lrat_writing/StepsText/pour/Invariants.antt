use Rattle.std.proofs.Common.{take}
use Rattle.std.specs.List.{flat_map}
use Rattle.cnf.specs.declared.derivations.Line.{Line}
use Rattle.clause_text.specs.Lrat.{step_text}
use Rattle.texts.proofs.PourLemmas.{Added}
use Rattle.clause_text.proofs.lrat_writing.StepsText.pour.Given as goal

-- the texts so far were added
abbrev pub invariant-loop-line : goal.invariant-loop-line
invariant-loop-line g l = Added (g.O.Sink.taken l.initial.out) (g.O.Sink.taken l.out) l.initial.page l.page (g.O.Sink.faults l.initial.out) (g.O.Sink.faults l.out) (flat_map (λ (line : Line). step_text line.step) (take l.line-index l.self.0.now))
