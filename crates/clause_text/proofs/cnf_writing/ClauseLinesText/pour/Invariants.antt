use Rattle.std.proofs.Common.{◌++◌, ◌∷◌, [], take}
use Rattle.std.specs.List.{flat_map}
use Rattle.cnf.specs.Sat.{Clause}
use Rattle.clause_text.specs.Dimacs.{clause_text}
use Rattle.texts.proofs.PourLemmas.{Added}
use Rattle.clause_text.proofs.cnf_writing.ClauseLinesText.pour.Given as goal

-- the texts so far were added
abbrev pub invariant-loop-place : goal.invariant-loop-place
invariant-loop-place g l = Added (g.O.Sink.taken l.initial.out) (g.O.Sink.taken l.out) l.initial.page l.page (g.O.Sink.faults l.initial.out) (g.O.Sink.faults l.out) (flat_map (λ (clause : Clause). clause_text clause ++ 10 ∷ []) (take l.place l.self.0.now.clauses))
