-- Stories in which every lemma and every step is needed.
use Rattle.std.specs.Prelude.{ℕ, Bool, true, false, not, ◌&&◌, ◌||◌, ◌==◌, List, [], ◌∷◌, ◌++◌, length, slice_get, Option, Some, None}
use Rattle.std.specs.List.{list_any}
use Rattle.vocab.specs.declared.literals.Literal.{Literal}
use Rattle.vocab.specs.Limits.{bases_of}
use Rattle.vocab.specs.Literal.{opposite_of, has}
use Rattle.vocab.specs.Size.{Extent}
use Rattle.vocab.specs.Titled.{Titled}
use Rattle.cnf.specs.Sat.{has_lit}
use Rattle.meaning.specs.declared.stories.Reason.{Reason}
use Rattle.meaning.specs.declared.stories.Reason.TheVariants.{Axiom as ByAxiom, Outcome as ByOutcome, Lemma as ByLemma}
use Rattle.meaning.specs.declared.stories.StoryStep.{StoryStep}
use Rattle.meaning.specs.declared.stories.Lemma.{Lemma}
use Rattle.meaning.specs.Space.{number_of}
use Rattle.meaning.specs.Stories.{lemma_claim}
use Rattle.meaning.specs.declared.clauses.Origin.{Origin}
use Rattle.meaning.specs.declared.clauses.Origin.TheVariants.{Frame, Instance}
use Rattle.meaning.specs.StudyClauses.{study_clauses}
use Rattle.meaning.specs.Variables.{lit_of}

-- ---- cited lemmas

-- a reason is lemma j
abbrev pub is_lemma_cited : ℕ → Reason → Bool
is_lemma_cited j (ByAxiom k values) = false
is_lemma_cited j (ByOutcome p) = false
is_lemma_cited j (ByLemma i) = i == j

-- a reason of a lemma is lemma j
abbrev pub cites_lemma : ℕ → Lemma → Bool
cites_lemma j lemma = list_any (λ step. is_lemma_cited j step.reason) lemma.steps || is_lemma_cited j lemma.last

-- the literal stands in the claim of a lemma
abbrev pub is_claimed : Literal → Option Lemma → Bool
is_claimed l None = false
is_claimed l (Some lemma) = has (lemma_claim lemma) l

-- ---- used steps

module _ (size : Extent) (axioms : List Titled) (core : List ℕ) where
  -- i is the number of the instance of an axiom at these values
  abbrev pub is_instance_number : ℕ → List ℕ → Option Titled → Bool
  is_instance_number i values None = false
  is_instance_number i values (Some a) = i == number_of (bases_of size a.sentence) values

  -- a clause of this origin comes from what the reason cites
  abbrev pub comes_from : Reason → Origin → Bool
  comes_from (ByAxiom k values) (Frame p) = false
  comes_from (ByAxiom k values) (Instance j i) = j == k && is_instance_number i values (slice_get axioms k)
  comes_from (ByOutcome q) (Frame p) = p == q
  comes_from (ByOutcome q) (Instance j i) = false
  comes_from (ByLemma j) origin = false

  -- the literal stands in a clause of the reason: in the claim of its lemma, or in a clause of the core's list that comes from what it cites
  abbrev pub is_in_reason : List Lemma → Literal → Reason → Bool
  is_in_reason earlier l (ByLemma j) = is_claimed l (slice_get earlier j)
  is_in_reason earlier l reason = list_any (λ s. comes_from reason s.origin && has_lit s.clause (lit_of size l)) (study_clauses size axioms core)

  -- the opposite of each step's literal stands in a clause of a later reason of the lemma
  abbrev pub are_steps_used : List Lemma → Reason → List StoryStep → Bool
  are_steps_used earlier last [] = true
  are_steps_used earlier last (step ∷ steps) =
      (list_any (λ s. is_in_reason earlier (opposite_of step.literal) s.reason) steps || is_in_reason earlier (opposite_of step.literal) last)
      && are_steps_used earlier last steps

  -- each lemma but the last supposes something and is cited by a later one, and each step is used
  abbrev pub is_tidy_from : List Lemma → List Lemma → Bool
  is_tidy_from earlier [] = false
  is_tidy_from earlier (lemma ∷ []) = are_steps_used earlier lemma.last lemma.steps
  is_tidy_from earlier (lemma ∷ next ∷ rest) =
      not (length lemma.suppose == 0) && list_any (cites_lemma (length earlier)) (next ∷ rest) && are_steps_used earlier lemma.last lemma.steps
      && is_tidy_from (earlier ++ lemma ∷ []) (next ∷ rest)

  -- a story is tidy
  abbrev pub is_tidy : List Lemma → Bool
  is_tidy story = is_tidy_from [] story
