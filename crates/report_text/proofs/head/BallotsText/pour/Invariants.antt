use Rattle.std.proofs.Common.{ℕ, ◌∷◌, take}
use Rattle.vocab.specs.Size.{ballot_places}
use Rattle.meaning.specs.Texts.{ranking_text}
use Rattle.texts.specs.Spelled.{spelled}
use Rattle.texts.proofs.PourLemmas.{Added}
use Rattle.report_text.proofs.head.BallotsText.pour.Given as goal

-- the texts so far were added
abbrev pub invariant-loop-b : goal.invariant-loop-b
invariant-loop-b g l = Added (g.O.Sink.taken l.initial.out) (g.O.Sink.taken l.out) l.initial.page l.page (g.O.Sink.faults l.initial.out) (g.O.Sink.faults l.out) (spelled (λ _ (place : ℕ). 32 ∷ ranking_text l.self.space.now.alternatives place) 0 (take l.b (ballot_places l.self.space.now)))
