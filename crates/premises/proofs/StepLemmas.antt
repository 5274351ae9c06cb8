-- The first of the steps that follow, and the lemmas of a story.
use Rattle.std.proofs.Common.{◌≡◌, refl, sym, ap, ◌∙◌, subst, ℕ, zero, suc, ◌+◌, ◌<◌, true, false, not, ◌&&◌, List, [], ◌∷◌, ◌++◌, take, drop, get_or, length, Some, append-nil, append_assoc}
use Rattle.std.specs.Prelude.{slice_get, ◌==◌}
use Rattle.std.specs.List.{list_all}
use Rattle.std.proofs.lemmas.Bool.{and_parts, and_from, or_parts, not-true}
use Rattle.std.proofs.lemmas.List.{drop_more, take_more}
use Rattle.std.proofs.lemmas.List.Elements.{filter-append}
use Rattle.lists.proofs.TestLaws.{all_read}
use Rattle.vocab.specs.declared.literals.Literal.{Literal}
use Rattle.vocab.specs.Literal.{has, opposite_of}
use Rattle.vocab.specs.Size.{Extent}
use Rattle.vocab.specs.Titled.{Titled}
use Rattle.meaning.specs.declared.stories.Lemma.{Lemma}
use Rattle.meaning.specs.declared.stories.Reason.{Reason}
use Rattle.meaning.specs.declared.stories.StoryStep.{StoryStep}
use Rattle.meaning.specs.Literals.{is_literal}
use Rattle.meaning.specs.Stories.{are_forced, are_new, has_literals, is_decided, is_lemma, is_story_from, refutes}
use Rattle.premises.specs.SoFar.{unforced}

-- what is new is not known
is_fresh : (known : List Literal) (l : Literal) → not (is_decided known l) ≡ true → has known l ≡ false
is_fresh known l h = (or_parts (has known l) (has known (opposite_of l)) (not-true (is_decided known l) h)).0

module _ (size : Extent) (axioms : List Titled) (core : List ℕ) (earlier : List Lemma) (last : Reason) where
  -- the next step is new and forced, and so are those after it
  pub record NextForced (known : List Literal) (step : StoryStep) (rest : List StoryStep) : Type 0 where
    pub fresh : has known step.literal ≡ false
    pub refuted : refutes size axioms core earlier (known ++ opposite_of step.literal ∷ []) step.reason ≡ true
    pub others : are_forced size axioms core earlier last (known ++ step.literal ∷ []) rest ≡ true

  pub next_forced : (known : List Literal) (steps : List StoryStep) (i : ℕ) (d : StoryStep) → i < length steps → are_forced size axioms core earlier last known (drop i steps) ≡ true →
      NextForced known (get_or steps i d) (drop (i + 1) steps)
  next_forced known steps i d lt h =
      let step = get_or steps i d in
      let rest = drop (i + 1) steps in
      let p = and_parts (not (is_decided known step.literal) && refutes size axioms core earlier (known ++ opposite_of step.literal ∷ []) step.reason) (are_forced size axioms core earlier last (known ++ step.literal ∷ []) rest)
      (subst (λ (ss : List StoryStep). are_forced size axioms core earlier last known ss ≡ true) (drop_more steps i d lt) h) in
      let q = and_parts (not (is_decided known step.literal)) (refutes size axioms core earlier (known ++ opposite_of step.literal ∷ []) step.reason) p.0 in
      record { fresh = is_fresh known step.literal q.0; refuted = q.1; others = p.1 }

-- ---- the lemmas of a story

module _ (size : Extent) (axioms : List Titled) (core : List ℕ) where
  here : (earlier : List Lemma) (lemma : Lemma) (rest : List Lemma) → is_story_from size axioms core earlier (lemma ∷ rest) ≡ true → is_lemma size axioms core earlier lemma ≡ true
  here earlier lemma [] h = (and_parts (is_lemma size axioms core earlier lemma) (length lemma.suppose == 0) h).0
  here earlier lemma (next ∷ rest) h = (and_parts (is_lemma size axioms core earlier lemma) (is_story_from size axioms core (earlier ++ lemma ∷ []) (next ∷ rest)) h).0

  -- each lemma follows from those before it
  pub lemma_there : (earlier story : List Lemma) (j : ℕ) (lemma : Lemma) → is_story_from size axioms core earlier story ≡ true → slice_get story j ≡ Some lemma → is_lemma size axioms core (earlier ++ take j story) lemma ≡ true
  lemma_there earlier [] j lemma h at = cc
  lemma_there earlier (first ∷ rest) zero lemma h at =
      let same : first ≡ lemma = cc in
      subst (λ (ls : List Lemma). is_lemma size axioms core ls lemma ≡ true) (sym (append-nil earlier)) (subst (λ (l : Lemma). is_lemma size axioms core earlier l ≡ true) same (here earlier first rest h))
  lemma_there earlier (first ∷ []) (suc j) lemma h at = cc
  lemma_there earlier (first ∷ (next ∷ rest)) (suc j) lemma h at =
      let p = and_parts (is_lemma size axioms core earlier first) (is_story_from size axioms core (earlier ++ first ∷ []) (next ∷ rest)) h in
      subst (λ (ls : List Lemma). is_lemma size axioms core ls lemma ≡ true) (append_assoc earlier (first ∷ []) (take j (next ∷ rest))) (lemma_there (earlier ++ first ∷ []) (next ∷ rest) j lemma p.1 at)

  -- each literal of it is one of the size
  its_literals : (earlier : List Lemma) (lemma : Lemma) → is_lemma size axioms core earlier lemma ≡ true → has_literals size lemma ≡ true
  its_literals earlier lemma h =
      let p = and_parts (has_literals size lemma && are_new [] lemma.suppose) (are_forced size axioms core earlier lemma.last lemma.suppose lemma.steps) h in
      (and_parts (has_literals size lemma) (are_new [] lemma.suppose) p.0).0

  pub story_literals : (earlier story : List Lemma) → is_story_from size axioms core earlier story ≡ true → list_all (has_literals size) story ≡ true
  story_literals earlier [] h = refl
  story_literals earlier (lemma ∷ []) h = and_from (has_literals size lemma) true (its_literals earlier lemma (here earlier lemma [] h)) refl
  story_literals earlier (lemma ∷ (next ∷ rest)) h =
      let p = and_parts (is_lemma size axioms core earlier lemma) (is_story_from size axioms core (earlier ++ lemma ∷ []) (next ∷ rest)) h in
      and_from (has_literals size lemma) (list_all (has_literals size) (next ∷ rest)) (its_literals earlier lemma p.0) (story_literals (earlier ++ lemma ∷ []) (next ∷ rest) p.1)

-- ---- the parts of a lemma

pub record Parts (size : Extent) (axioms : List Titled) (core : List ℕ) (earlier : List Lemma) (lemma : Lemma) : Type 0 where
  pub literals : has_literals size lemma ≡ true
  pub supposed : list_all (is_literal size) lemma.suppose ≡ true
  pub fresh : are_new [] lemma.suppose ≡ true
  pub follows : are_forced size axioms core earlier lemma.last lemma.suppose lemma.steps ≡ true

pub parts_of : (size : Extent) (axioms : List Titled) (core : List ℕ) (earlier : List Lemma) (lemma : Lemma) → is_lemma size axioms core earlier lemma ≡ true → Parts size axioms core earlier lemma
parts_of size axioms core earlier lemma h =
    let p = and_parts (has_literals size lemma && are_new [] lemma.suppose) (are_forced size axioms core earlier lemma.last lemma.suppose lemma.steps) h in
    let q = and_parts (has_literals size lemma) (are_new [] lemma.suppose) p.0 in
    let r = and_parts (list_all (is_literal size) lemma.suppose) (list_all (λ (step : StoryStep). is_literal size step.literal) lemma.steps) q.0 in
    record { literals = q.0; supposed = r.0; fresh = q.1; follows = p.1 }

-- the steps of a lemma state literals of the size
pub steps_literals : (size : Extent) (lemma : Lemma) → has_literals size lemma ≡ true → list_all (λ step. is_literal size step.literal) lemma.steps ≡ true
steps_literals size lemma h = (and_parts (list_all (is_literal size) lemma.suppose) (list_all (λ (step : StoryStep). is_literal size step.literal) lemma.steps) h).1

-- a step of a lemma states a literal of the size
pub its_literal : (size : Extent) (lemma : Lemma) (i : ℕ) (d : StoryStep) → has_literals size lemma ≡ true → i < length lemma.steps → is_literal size (get_or lemma.steps i d).literal ≡ true
its_literal size lemma i d h lt = all_read (λ (step : StoryStep). is_literal size step.literal) lemma.steps i d lt (steps_literals size lemma h)

-- the steps that are not forced, one more
pub unforced_more : (forced : List Literal) (steps : List StoryStep) (i : ℕ) (d : StoryStep) → i < length steps → unforced forced (take (i + 1) steps) ≡ unforced forced (take i steps) ++ unforced forced (get_or steps i d ∷ [])
unforced_more forced steps i d lt = ap (unforced forced) (take_more steps i d lt) ∙ filter-append (λ (step : StoryStep). not (has forced step.literal)) (take i steps) (get_or steps i d ∷ [])
