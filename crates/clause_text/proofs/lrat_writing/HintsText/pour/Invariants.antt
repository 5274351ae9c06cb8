use Rattle.std.proofs.Common.{ℕ, ◌++◌, ◌∷◌, [], take}
use Rattle.std.specs.List.{flat_map}
use Rattle.verdicts.specs.Numbers.{number_text}
use Rattle.texts.proofs.PourLemmas.{Added}
use Rattle.clause_text.proofs.lrat_writing.HintsText.pour.Given as goal

-- the texts so far were added
abbrev pub invariant-loop-id : goal.invariant-loop-id
invariant-loop-id g l = Added (g.O.Sink.taken l.initial.out) (g.O.Sink.taken l.out) l.initial.page l.page (g.O.Sink.faults l.initial.out) (g.O.Sink.faults l.out) (flat_map (λ (id : ℕ). number_text id ++ 32 ∷ []) (take l.id-index l.self.0.now))
