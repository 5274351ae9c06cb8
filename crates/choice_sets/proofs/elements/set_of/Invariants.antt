use Rattle.std.proofs.Common.{◌≢◌, ℕ, ◌<◌, map}
use Rattle.meaning.specs.Subsets.{elements}
use Rattle.meaning.specs.Texts.{letter}
use Rattle.choice_sets.proofs.elements.set_of.Given as goal

abbrev pub invariant-loop-set : goal.invariant-loop-set
invariant-loop-set l = (set : ℕ) → set < l.set → l.text ≢ map letter (elements l.alternatives.number set)
