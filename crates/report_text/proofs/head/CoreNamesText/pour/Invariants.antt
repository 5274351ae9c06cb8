use Rattle.std.proofs.Common.{ℕ, ◌∷◌, take}
use Rattle.verdicts.specs.Lines.{name_at}
use Rattle.texts.specs.Spelled.{spelled}
use Rattle.texts.proofs.PourLemmas.{Added}
use Rattle.report_text.proofs.head.CoreNamesText.pour.Given as goal

-- the texts so far were added
abbrev pub invariant-loop-place : goal.invariant-loop-place
invariant-loop-place g l = Added (g.O.Sink.taken l.initial.out) (g.O.Sink.taken l.out) l.initial.page l.page (g.O.Sink.faults l.initial.out) (g.O.Sink.faults l.out) (spelled (λ _ (k : ℕ). 32 ∷ name_at l.self.study.now.axioms k) 0 (take l.place-index l.self.core.now))
