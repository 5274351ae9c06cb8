use Rattle.std.proofs.Common.{◌++◌, ◌∷◌, [], take}
use Rattle.std.specs.List.{flat_map}
use Rattle.cnf.specs.Signed.{Signed}
use Rattle.clause_text.specs.Dimacs.{signed_text}
use Rattle.texts.proofs.PourLemmas.{Added}
use Rattle.clause_text.proofs.literals.LiteralsText.pour.Given as goal

-- the texts so far were added
abbrev pub invariant-loop-lit : goal.invariant-loop-lit
invariant-loop-lit g l = Added (g.O.Sink.taken l.initial.out) (g.O.Sink.taken l.out) l.initial.page l.page (g.O.Sink.faults l.initial.out) (g.O.Sink.faults l.out) (flat_map (λ (l : Signed). signed_text l ++ 32 ∷ []) (take l.lit-index l.self.0.now))
