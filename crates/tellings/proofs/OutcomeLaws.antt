-- What is left at a profile depends on the facts of that profile alone.
use Rattle.std.proofs.Common.{◌≡◌, refl, sym, ap, ◌∙◌, subst, ℕ, Bool, true, false, cond, not, ◌&&◌, ◌||◌, List, [], ◌∷◌, ◌++◌, filter, append-nil, Some}
use Rattle.std.specs.Prelude.{◌==◌}
use Rattle.std.specs.List.{list_all, list_any}
use Rattle.std.proofs.lemmas.Bool.{and_parts}
use Rattle.std.proofs.lemmas.List.Elements.{filter-append}
use Rattle.vocab.specs.declared.literals.Literal.{Literal}
use Rattle.vocab.specs.Literal.{opposite_of, profile_of}
use Rattle.vocab.specs.Size.{Extent, outcome_count}
use Rattle.vocab.specs.Titled.{Titled}
use Rattle.meaning.specs.declared.stories.Reason.{Reason}
use Rattle.meaning.specs.declared.stories.Reason.TheVariants.{Outcome as ByOutcome}
use Rattle.meaning.specs.declared.stories.StoryStep.{StoryStep}
use Rattle.meaning.specs.declared.stories.Lemma.{Lemma}
use Rattle.meaning.specs.Space.{below}
use Rattle.meaning.specs.Stories.{is_outcome_excluded, refutes}
use Rattle.meaning.specs.Truth.{holds_of}
use Rattle.meaning.proofs.LiteralLaws.{profile_of-opposite}
use Rattle.tellings.specs.declared.tellings.Sentence.{Sentence}
use Rattle.tellings.specs.Laws.{facts_at}
use Rattle.tellings.specs.Tellings.{by_of, is_by, says_step, stand_there}

-- no outcome makes all these facts hold, which are of one profile
abbrev pub leave_nothing : Extent → List Literal → Bool
leave_nothing size facts = not (list_any (λ o. list_all (holds_of size o) facts) (below (outcome_count size.kind size.alternatives)))

twice : (t : Literal → Bool) (xs : List Literal) → filter t (filter t xs) ≡ filter t xs
twice t [] = refl
twice t (x ∷ xs) = cases (t x) refl (twice t xs)
  where
    cases : (b : Bool) → t x ≡ b → filter t (filter t xs) ≡ filter t xs → filter t (cond b (x ∷ filter t xs) (filter t xs)) ≡ cond b (x ∷ filter t xs) (filter t xs)
    cases true here ih = ap (λ (c : Bool). cond c (x ∷ filter t (filter t xs)) (filter t (filter t xs))) here ∙ ap (λ (ys : List Literal). x ∷ ys) ih
    cases false here ih = ih

-- beside facts of a profile, those of others are none
pub own_facts : (p : ℕ) (rests others : List Literal) → facts_at p (facts_at p rests ++ others) ≡ facts_at p (rests ++ others)
own_facts p rests others =
    filter-append (λ (l : Literal). profile_of l == p) (facts_at p rests) others
    ∙ ap (λ (ls : List Literal). ls ++ facts_at p others) (twice (λ (l : Literal). profile_of l == p) rests)
    ∙ sym (filter-append (λ (l : Literal). profile_of l == p) rests others)

module _ (size : Extent) (axioms : List Titled) (core : List ℕ) (earlier : List Lemma) (sentence : Sentence) (step : StoryStep) (p : ℕ) (is : step.reason ≡ ByOutcome p)
    (h : says_step size axioms core earlier (Some sentence) step ≡ true) where
  -- the step's opposite
  abbrev other : List Literal
  other = opposite_of step.literal ∷ []

  nothing_left : is_outcome_excluded size (sentence.rests ++ other) p ≡ true
  nothing_left =
      subst (λ (r : Reason). refutes size axioms core earlier (sentence.rests ++ other) r ≡ true) is
      (and_parts (is_by sentence.by (by_of step.reason) && stand_there sentence.rests step.reason) (refutes size axioms core earlier (sentence.rests ++ other) step.reason) h).1

  pub own_profile : (profile_of step.literal == p || is_outcome_excluded size sentence.rests p) ≡ true
  own_profile = cases (profile_of step.literal == p) refl
    where
      cases : (b : Bool) → (profile_of step.literal == p) ≡ b → (b || is_outcome_excluded size sentence.rests p) ≡ true
      cases true here = refl
      cases false here =
          let none : facts_at p other ≡ [] = ap (λ (c : Bool). cond c other []) (ap (λ (q : ℕ). q == p) (profile_of-opposite step.literal) ∙ here) in
          let same : facts_at p (sentence.rests ++ other) ≡ facts_at p sentence.rests =
          filter-append (λ (l : Literal). profile_of l == p) sentence.rests other ∙ ap (λ (ls : List Literal). facts_at p sentence.rests ++ ls) none ∙ append-nil (facts_at p sentence.rests) in
          subst (λ (ls : List Literal). leave_nothing size ls ≡ true) same nothing_left

  pub facts_there : refutes size axioms core earlier (facts_at p sentence.rests ++ other) step.reason ≡ true
  facts_there =
      subst (λ (r : Reason). refutes size axioms core earlier (facts_at p sentence.rests ++ other) r ≡ true) (sym is)
      (subst (λ (ls : List Literal). leave_nothing size ls ≡ true) (sym (own_facts p sentence.rests other)) nothing_left)
