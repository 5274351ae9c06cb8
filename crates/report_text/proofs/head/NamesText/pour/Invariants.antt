use Rattle.std.proofs.Common.{◌∷◌, take}
use Rattle.vocab.specs.Titled.{Titled}
use Rattle.texts.specs.Spelled.{spelled}
use Rattle.texts.proofs.PourLemmas.{Added}
use Rattle.report_text.proofs.head.NamesText.pour.Given as goal

-- the texts so far were added
abbrev pub invariant-loop-axiom : goal.invariant-loop-axiom
invariant-loop-axiom g l = Added (g.O.Sink.taken l.initial.out) (g.O.Sink.taken l.out) l.initial.page l.page (g.O.Sink.faults l.initial.out) (g.O.Sink.faults l.out) (spelled (λ _ (a : Titled). 32 ∷ a.name) 0 (take l.axiom-index l.self.axioms.now))
