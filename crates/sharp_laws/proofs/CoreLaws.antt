-- The axioms that an accepted story cites are those of its core, where it cites each of them.
use Rattle.std.proofs.Common.{◌≡◌, refl, sym, ap, ap₂, ◌∙◌, subst, ℕ, zero, suc, ◌+◌, ◌<◌, ◌≤◌, inl, inr, Bool, true, false, not, ◌&&◌, List, [], ◌∷◌, ◌++◌, map, filter, length, cond, arith, true≢false, eqb-true}
use Rattle.std.specs.Prelude.{◌==◌, slice_get}
use Rattle.std.specs.List.{list_all, list_any}
use Rattle.std.proofs.lemmas.Bool.{and_parts, or_cases, cases_lt}
use Rattle.vocab.specs.declared.literals.Literal.{Literal}
use Rattle.vocab.specs.Literal.{opposite_of}
use Rattle.vocab.specs.Size.{Extent}
use Rattle.vocab.specs.Study.{Question}
use Rattle.vocab.specs.Titled.{Titled}
use Rattle.meaning.specs.declared.stories.Reason.{Reason}
use Rattle.meaning.specs.declared.stories.Reason.TheVariants.{Axiom as ByAxiom, Outcome as ByOutcome, Lemma as ByLemma}
use Rattle.meaning.specs.declared.stories.StoryStep.{StoryStep}
use Rattle.meaning.specs.declared.stories.Lemma.{Lemma}
use Rattle.meaning.specs.Cores.{is_core_from}
use Rattle.meaning.specs.Space.{up_from}
use Rattle.meaning.specs.Stories.{is_instance_false, refutes, is_decided, are_new, has_literals, are_forced, is_lemma, is_story_from, is_story}
use Rattle.sharp_verdicts.specs.Instances.{reasons_of, cites_axiom, is_axiom_told, core_of}
use Rattle.meaning.proofs.CoreLaws.{first_of_core, onto_core, filter_core}

-- ---- places that rise

core_above : (end from : ℕ) (core : List ℕ) (k : ℕ) → is_core_from from end core ≡ true → list_any (λ c. c == k) core ≡ true → from ≤ k
core_above end from [] k h e = absurd (true≢false (sym e))
core_above end from (c ∷ core) k h e =
    let f = first_of_core end from c core h in
    elim (or_cases (c == k) (list_any (λ d. d == k) core) e) [
      | inl same ↦ omega (arith, eqb-true c k same, f.0)
      | inr later ↦ omega (arith, core_above end (c + 1) core k f.2 later, f.0)
    ]

-- a core that has exactly the places that pass a test is these places
abbrev HasAll : (ℕ → Bool) → ℕ → ℕ → List ℕ → Type 0
HasAll t from end core = (k : ℕ) → from ≤ k → k < end → t k ≡ true → list_any (λ c. c == k) core ≡ true

core_filtered : (t : ℕ → Bool) (n from : ℕ) (core : List ℕ) → is_core_from from (from + n) core ≡ true → list_all t core ≡ true
    → HasAll t from (from + n) core → core ≡ filter t (up_from from n)
core_filtered t zero from [] h told all = refl
core_filtered t zero from (c ∷ core) h told all = let f = first_of_core (from + 0) from c core h in absurd (omega (arith, f.0, f.1))
core_filtered t (suc n) from core h told all = by (t from) refl core h told all (core_filtered t n (suc from))
  where
    over : from + suc n ≡ suc from + n
    over = omega arith

    rest : List ℕ
    rest = filter t (up_from (suc from) n)

    Later : List ℕ → Type 0
    Later core = is_core_from (suc from) (suc from + n) core ≡ true → list_all t core ≡ true → HasAll t (suc from) (suc from + n) core → core ≡ filter t (up_from (suc from) n)

    moved : (core : List ℕ) → is_core_from (suc from) (from + suc n) core ≡ true → is_core_from (suc from) (suc from + n) core ≡ true
    moved core h = subst (λ (end : ℕ). is_core_from (suc from) end core ≡ true) over h

    starts_here : (c : ℕ) (core : List ℕ) → t from ≡ true → is_core_from from (from + suc n) (c ∷ core) ≡ true → HasAll t from (from + suc n) (c ∷ core) → c ≡ from
    starts_here c core e h all =
        let f = first_of_core (from + suc n) from c core h in
        elim (cases_lt from c) [
          | inl less ↦
              let later = onto_core (from + suc n) (suc from) c core less f.1 f.2 in
              absurd (omega (arith, core_above (from + suc n) (suc from) (c ∷ core) from later (all from (omega arith) (omega arith) e)))
          | inr le ↦ omega (arith, le, f.0)
        ]

    all_later : (c : ℕ) (core : List ℕ) → c ≡ from → HasAll t from (from + suc n) (c ∷ core) → HasAll t (suc from) (suc from + n) core
    all_later c core same all k low high e = elim (or_cases (c == k) (list_any (λ d. d == k) core) (all k (omega (arith, low)) (omega (arith, high)) e)) [
      | inl here ↦ absurd (omega (arith, eqb-true c k here, same, low))
      | inr later ↦ later
    ]

    by : (b : Bool) → t from ≡ b → (core : List ℕ) → is_core_from from (from + suc n) core ≡ true → list_all t core ≡ true → HasAll t from (from + suc n) core
        → ((core : List ℕ) → Later core) → core ≡ cond b (from ∷ filter t (up_from (suc from) n)) (filter t (up_from (suc from) n))
    by true e [] h told all ih = absurd (true≢false (sym (all from (omega arith) (omega arith) e)))
    by true e (c ∷ core) h told all ih =
        let same = starts_here c core e h all in
        let f = first_of_core (from + suc n) from c core h in
        let next : c + 1 ≡ suc from = omega (arith, same) in
        let later = subst (λ (start : ℕ). is_core_from start (from + suc n) core ≡ true) next f.2 in
        ap₂ (λ (x : ℕ) (xs : List ℕ). x ∷ xs) same (ih core (moved core later) (and_parts (t c) (list_all t core) told).1 (all_later c core same all))
    by false e [] h told all ih = ih [] refl refl (λ k low high a. all k (omega (arith, low)) (omega (arith, high)) a)
    by false e (c ∷ core) h told all ih =
        let f = first_of_core (from + suc n) from c core h in
        let here = (and_parts (t c) (list_all t core) told).0 in
        elim (cases_lt from c) [
          | inl less ↦
              ih (c ∷ core) (moved (c ∷ core) (onto_core (from + suc n) (suc from) c core less f.1 f.2)) told
              (λ k low high a. all k (omega (arith, low)) (omega (arith, high)) a)
          | inr le ↦ let same : c ≡ from = omega (arith, le, f.0) in absurd (true≢false (sym (ap t (sym same) ∙ here) ∙ e))
        ]

-- ---- what a story cites

module _ (size : Extent) (axioms : List Titled) (core : List ℕ) (k : ℕ) where
  refuted_cites : (earlier : List Lemma) (known : List Literal) (r : Reason) → refutes size axioms core earlier known r ≡ true → cites_axiom k r ≡ true → list_any (λ c. c == k) core ≡ true
  refuted_cites earlier known (ByAxiom j values) h e =
      let here = (and_parts (list_any (λ c. c == j) core) (is_instance_false size known (slice_get axioms j) values) h).0 in
      subst (λ (i : ℕ). list_any (λ c. c == i) core ≡ true) (eqb-true j k e) here
  refuted_cites earlier known (ByOutcome p) h e = absurd (true≢false (sym e))
  refuted_cites earlier known (ByLemma j) h e = absurd (true≢false (sym e))

  forced_cites : (earlier : List Lemma) (last : Reason) (known : List Literal) (steps : List StoryStep) → are_forced size axioms core earlier last known steps ≡ true
      → list_any (cites_axiom k) (map (λ (s : StoryStep). s.reason) steps ++ last ∷ []) ≡ true → list_any (λ c. c == k) core ≡ true
  forced_cites earlier last known [] h e = elim (or_cases (cites_axiom k last) false e) [ inl here ↦ refuted_cites earlier known last h here | inr none ↦ absurd (true≢false (sym none)) ]
  forced_cites earlier last known (step ∷ steps) h e =
      let a = and_parts (not (is_decided known step.literal) && refutes size axioms core earlier (known ++ opposite_of step.literal ∷ []) step.reason) (are_forced size axioms core earlier last (known ++ step.literal ∷ []) steps) h in
      let b = and_parts (not (is_decided known step.literal)) (refutes size axioms core earlier (known ++ opposite_of step.literal ∷ []) step.reason) a.0 in
      elim (or_cases (cites_axiom k step.reason) (list_any (cites_axiom k) (map (λ (s : StoryStep). s.reason) steps ++ last ∷ [])) e) [
        | inl here ↦ refuted_cites earlier (known ++ opposite_of step.literal ∷ []) step.reason b.1 here
        | inr later ↦ forced_cites earlier last (known ++ step.literal ∷ []) steps a.1 later
      ]

  lemma_cites : (earlier : List Lemma) (lemma : Lemma) → is_lemma size axioms core earlier lemma ≡ true → list_any (cites_axiom k) (reasons_of lemma) ≡ true → list_any (λ c. c == k) core ≡ true
  lemma_cites earlier lemma h e =
      let a = and_parts (has_literals size lemma && are_new [] lemma.suppose) (are_forced size axioms core earlier lemma.last lemma.suppose lemma.steps) h in
      forced_cites earlier lemma.last lemma.suppose lemma.steps a.1 e

  -- an axiom that an accepted story cites is in its core
  story_cites : (earlier story : List Lemma) → is_story_from size axioms core earlier story ≡ true → is_axiom_told story k ≡ true → list_any (λ c. c == k) core ≡ true
  story_cites earlier [] h e = absurd (true≢false (sym e))
  story_cites earlier (lemma ∷ []) h e =
      let a = and_parts (is_lemma size axioms core earlier lemma) (length lemma.suppose == 0) h in
      elim (or_cases (list_any (cites_axiom k) (reasons_of lemma)) false e) [ inl here ↦ lemma_cites earlier lemma a.0 here | inr none ↦ absurd (true≢false (sym none)) ]
  story_cites earlier (lemma ∷ next ∷ rest) h e =
      let a = and_parts (is_lemma size axioms core earlier lemma) (is_story_from size axioms core (earlier ++ lemma ∷ []) (next ∷ rest)) h in
      elim (or_cases (list_any (cites_axiom k) (reasons_of lemma)) (is_axiom_told (next ∷ rest) k) e) [
        | inl here ↦ lemma_cites earlier lemma a.0 here
        | inr later ↦ story_cites (earlier ++ lemma ∷ []) (next ∷ rest) a.1 later
      ]

-- ---- cores of stories

-- where an accepted story cites each axiom of its core, the core is what it cites
pub core_is_cited : (study : Question) (core : List ℕ) (story : List Lemma) → is_core_from 0 (length study.axioms) core ≡ true
    → is_story study.size study.axioms core story ≡ true → list_all (is_axiom_told story) core ≡ true → core ≡ core_of study story
core_is_cited study core story places accepted told =
    let all : 0 + length study.axioms ≡ length study.axioms = omega arith in
    core_filtered (is_axiom_told story) (length study.axioms) 0 core (subst (λ (end : ℕ). is_core_from 0 end core ≡ true) (sym all) places) told
    (λ k low high e. story_cites study.size study.axioms core k [] story accepted e)

-- what a story cites is a core, and it cites each of these
pub cited_is_core : (study : Question) (story : List Lemma) → is_core_from 0 (length study.axioms) (core_of study story) ≡ true
cited_is_core study story =
    let all : 0 + length study.axioms ≡ length study.axioms = omega arith in
    subst (λ (end : ℕ). is_core_from 0 end (core_of study story) ≡ true) all (filter_core (is_axiom_told story) (length study.axioms) 0)
