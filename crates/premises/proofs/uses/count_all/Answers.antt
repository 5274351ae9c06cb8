use Rattle.std.proofs.Common.{refl, ℕ, List}
use Rattle.std.specs.List.{flat_map}
use Rattle.tellings.specs.Tellings.{naming}
use Rattle.tellings.specs.declared.tellings.Placed.{Placed}
use Rattle.premises.proofs.UseLemmas.{named_then}
use Rattle.premises.proofs.uses.count_all.Goals as goal

pub returns-clause-named : goal.returns-clause-named
returns-clause-named c =
    let by : ℕ → Placed → List ℕ = λ j placed. naming j c.args.place placed.step.reason in
    named_then c.args.uses.now.items c.count_steps.new.uses.items c.count.new.uses.items (λ j. flat_map (by j) c.args.telling.now.passage.steps) (λ j. naming j c.args.place c.args.lemma.now.last) _
    (λ j. refl) (rw c.as_slice.ensures at c.count_steps.ensures.named) c.count.ensures.named
