-- What holds of these definitions. Each statement is the contract of a function of the same name in src/laws.rt.
use Rattle.std.specs.Prelude.{◌≡◌, ℕ, ◌||◌, ◌==◌, IsTrue, List, [], ◌∷◌, ◌++◌, filter, Some}
use Rattle.vocab.specs.declared.literals.Literal.{Literal}
use Rattle.vocab.specs.Literal.{has, opposite_of, profile_of}
use Rattle.vocab.specs.Size.{Extent}
use Rattle.vocab.specs.Titled.{Titled}
use Rattle.meaning.specs.declared.stories.Reason.TheVariants.{Outcome as ByOutcome}
use Rattle.meaning.specs.declared.stories.StoryStep.{StoryStep}
use Rattle.meaning.specs.declared.stories.Lemma.{Lemma}
use Rattle.meaning.specs.Stories.{is_outcome_excluded, refutes}
use Rattle.tellings.specs.declared.tellings.Sentence.{Sentence}
use Rattle.tellings.specs.declared.tellings.StoryTelling.{StoryTelling}
use Rattle.tellings.specs.Tellings.{facts_of, forced_by, forced_facts, is_forced, says_step, namers, home_of, greatest_depth, is_shallow, several, IsStoryTold}

-- the facts of a profile
abbrev pub facts_at : ℕ → List Literal → List Literal
facts_at p facts = filter (λ l. profile_of l == p) facts

-- a step that a sentence says by what is left at a profile states a fact of that profile, but where the sentence rests on facts
-- that leave nothing there; and the facts of that profile are enough for it
pub record OutcomesAreOfTheirProfiles : Type 0 where
  pub own : (size : Extent) (axioms : List Titled) (core : List ℕ) (earlier : List Lemma) (sentence : Sentence) (step : StoryStep) (p : ℕ) → step.reason ≡ ByOutcome p →
      IsTrue (says_step size axioms core earlier (Some sentence) step) → IsTrue (profile_of step.literal == p || is_outcome_excluded size sentence.rests p)
  pub enough : (size : Extent) (axioms : List Titled) (core : List ℕ) (earlier : List Lemma) (sentence : Sentence) (step : StoryStep) (p : ℕ) → step.reason ≡ ByOutcome p →
      IsTrue (says_step size axioms core earlier (Some sentence) step) → IsTrue (refutes size axioms core earlier (facts_at p sentence.rests ++ opposite_of step.literal ∷ []) step.reason)

-- in a story that is told right a lemma that is named once in all stands within the one that names it, if that one
-- does not itself stand as deep as lemmas may
abbrev pub UsedOnceStandWhereUsed : Type 0
UsedOnceStandWhereUsed =
    (size : Extent) (axioms : List Titled) (core : List ℕ) (story : List Lemma) (told : StoryTelling) → IsStoryTold size axioms core story told →
    (j m : ℕ) → namers story told.lemmas j ≡ m ∷ [] → IsTrue (is_shallow told.homes greatest_depth m) → home_of told.homes j ≡ Some m

-- in a story of several lemmas that is told right each fact that a step states comes first, if the facts that were forced before the step force it
abbrev pub ForcedFactsComeFirst : Type 0
ForcedFactsComeFirst =
    (size : Extent) (axioms : List Titled) (core : List ℕ) (story : List Lemma) (told : StoryTelling) → IsStoryTold size axioms core story told →
    (before after : List Lemma) (lemma : Lemma) (earlier later : List StoryStep) (step : StoryStep) → several story ≡ before ++ lemma ∷ after → lemma.steps ≡ earlier ++ step ∷ later →
    IsTrue (is_forced size axioms core [] (forced_by size axioms core [] (forced_facts size axioms core [] before) earlier) step) → IsTrue (has (facts_of told.forced.steps) step.literal)
