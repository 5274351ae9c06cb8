-- The fault of one line of a lemma, where the literals of the lines before it are known.
use Rattle.std.specs.Prelude.{ℕ, Bool, not, List, [], ◌∷◌, ◌++◌, Option}
use Rattle.std.specs.Option.{option_or}
use Rattle.vocab.specs.declared.literals.Literal.{Literal}
use Rattle.vocab.specs.Literal.{opposite_of}
use Rattle.vocab.specs.Size.{Extent}
use Rattle.vocab.specs.Titled.{Titled}
use Rattle.meaning.specs.declared.stories.Lemma.{Lemma}
use Rattle.meaning.specs.declared.stories.StoryFault.{StoryFault}
use Rattle.meaning.specs.declared.stories.StoryFault.TheVariants.{Supposes}
use Rattle.meaning.specs.declared.stories.StoryStep.{StoryStep}
use Rattle.meaning.specs.StoryFaults.{unless, literal_fault, reason_fault}

-- the fault of a supposition: the last lemma may have none, and it must be new
abbrev pub supposition_fault : Bool → List Literal → Literal → Option StoryFault
supposition_fault final known l = option_or (unless (not final) Supposes) (literal_fault known l)

-- the fault of a step: its literal must be new, and its reason must refute what is known with the opposite of the literal
abbrev pub step_fault : Extent → List Titled → List ℕ → List Lemma → List Literal → StoryStep →
    Option StoryFault
step_fault size axioms core earlier known step =
    option_or (literal_fault known step.literal)
    (reason_fault size axioms core earlier (known ++ opposite_of step.literal ∷ []) step.reason)
