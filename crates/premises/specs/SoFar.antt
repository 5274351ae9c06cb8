-- A lemma that is told so far.
use Rattle.std.specs.Prelude.{ℕ, nat_lt, not, Bool, IsTrue, List, [], ◌∷◌, map, filter, length, slice_get}
use Rattle.std.specs.List.{list_all}
use Rattle.vocab.specs.declared.literals.Literal.{Literal}
use Rattle.vocab.specs.Literal.{has, opposite_of}
use Rattle.vocab.specs.Size.{Extent}
use Rattle.vocab.specs.Titled.{Titled}
use Rattle.meaning.specs.declared.stories.Lemma.{Lemma}
use Rattle.meaning.specs.declared.stories.StoryStep.{StoryStep}
use Rattle.tellings.specs.declared.tellings.Passage.{Passage}
use Rattle.tellings.specs.declared.tellings.Placed.{Placed}
use Rattle.tellings.specs.Tellings.{are_said, rests_of, stands_before, AllSay}
use Rattle.needed_facts.specs.Rests.{are_there, RestsOn}

-- the steps without their places
abbrev pub bare_steps : List Placed → List StoryStep
bare_steps placed = map (λ p. p.step) placed

-- those steps whose facts are not forced
abbrev pub unforced : List Literal → List StoryStep → List StoryStep
unforced forced steps = filter (λ step. not (has forced step.literal)) steps

-- the sentence of each step is one of so many
abbrev pub are_numbered : ℕ → List Placed → Bool
are_numbered count steps = list_all (λ placed. nat_lt placed.sentence count) steps

module _ (size : Extent) (axioms : List Titled) (core : List ℕ) (earlier : List Lemma) where
  -- the fact of a step follows from these facts, which are known
  pub record FollowsFrom (known : List Literal) (step : StoryStep) (rests : List Literal) : Type 0 where
    pub rest : RestsOn size axioms core earlier known (opposite_of step.literal ∷ []) step.reason rests
    pub there : IsTrue (are_there step.reason rests)

  -- some steps of a lemma are told right, and all that is known was forced or supposed, or is stated
  pub record IsToldSoFar (forced suppose known : List Literal) (passage : Passage) : Type 0 where
    pub numbered : IsTrue (are_numbered (length passage.sentences) passage.steps)
    pub said : IsTrue (are_said size axioms core earlier passage)
    pub all_say : AllSay passage
    pub grounded : (k : ℕ)
        → IsTrue (list_all (stands_before forced suppose passage.steps k) (rests_of (slice_get passage.sentences k)))
    pub stands :
        IsTrue (list_all (stands_before forced suppose passage.steps (length passage.sentences)) known)

  -- a passage tells a lemma right up to its end
  pub record Upholds (forced suppose : List Literal) (end : List Literal) (passage : Passage) : Type 0 where
    pub said : IsTrue (are_said size axioms core earlier passage)
    pub grounded : (k : ℕ)
        → IsTrue (list_all (stands_before forced suppose passage.steps k) (rests_of (slice_get passage.sentences k)))
    pub end_stands :
        IsTrue (list_all (stands_before forced suppose passage.steps (length passage.sentences)) end)
