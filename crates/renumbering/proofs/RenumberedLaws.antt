-- A trimmed derivation is trimmed over another list in which the clauses stand that its hints name.
use Rattle.std.proofs.Common.{◌≡◌, refl, sym, ◌∙◌, ap, ap₂, subst, ℕ, zero, suc, ◌+◌, ◌-◌, ◌<◌, ◌≤◌, Bool, true, not, ◌&&◌, ◌||◌, inl, inr, cond, List, [], ◌∷◌, map, length, arith, Option, Some, eqb-true, eq-eqb, lt-ltb}
use Rattle.std.specs.Prelude.{◌==◌, slice_get, slice_index}
use Rattle.std.specs.List.{list_any, enumerate_from}
use Rattle.std.proofs.lemmas.Bool.{and_parts, and_from, or_cases, or_left, or_right, cases_lt, le-ltb}
use Rattle.std.proofs.lemmas.Option.{slice_get_past}
use Rattle.cnf.specs.declared.derivations.Line.{Line}
use Rattle.cnf.specs.declared.derivations.Step.{Step}
use Rattle.cnf.specs.declared.derivations.Step.TheVariants.{Add, Drop}
use Rattle.cnf.specs.Signed.{Signed}
use Rattle.cnf.specs.Sat.{Clause, opposite_lit}
use Rattle.cnf.specs.Derived.{StandingClauses, clause_under, Effect, Satisfied, Falsified, Forces, Unresolved}
use Rattle.cnf.specs.Trimmed.{is_in_option, effect_under, is_falsified_effect, is_used, are_hints_trimmed, is_cited_by, is_cited_in, is_empty_clause, is_step_trimmed, is_trimmed_from, is_trimmed}
use Rattle.renumbering.specs.Renumbered.{new_place, new_id, renumbered_step, renumbered_line, IsClausePlace, AreClausePlaces}
use Rattle.lists.proofs.NumberLaws.{same_test}
use Rattle.cnf.proofs.StandingLaws.{none_before, under_place}

pub under_suc : (cs : List Clause) (j : ℕ) → clause_under (enumerate_from 1 cs) (suc j) ≡ slice_get cs j
under_suc cs j = let e : suc j ≡ 1 + j = omega arith in ap (clause_under (enumerate_from 1 cs)) e ∙ under_place 1 cs j

module _ (old new : List Clause) (places : List ℕ) where
  abbrev B : ℕ
  B = length old

  abbrev A : ℕ
  A = length new

  abbrev f : ℕ → ℕ
  f = new_id B A places

  -- a hint names a clause that stands at its new place, or one that a line adds
  abbrev Good : ℕ → Type 0
  Good zero = Unit {0}
  Good (suc j) = j < B → IsClausePlace old new j (slice_index places j)

  abbrev AreGood : List ℕ → Type 0
  AreGood [] = Unit {0}
  AreGood (id ∷ ids) = Good id × AreGood ids

  abbrev IsStepGood : Step → Type 0
  IsStepGood (Add id clause hints) = AreGood hints
  IsStepGood (Drop ids) = Unit {0}

  abbrev AreLinesGood : List Line → Type 0
  AreLinesGood [] = Unit {0}
  AreLinesGood (line ∷ lines) = IsStepGood line.step × AreLinesGood lines

  -- ---- new places

  place_old : (j : ℕ) → j < B → new_place B A places j ≡ slice_index places j
  place_old j lt = ap (λ b. cond b (slice_index places j) (A + (j - B))) (lt-ltb j B lt)

  place_added : (j : ℕ) → B ≤ j → new_place B A places j ≡ A + (j - B)
  place_added j le = ap (λ b. cond b (slice_index places j) (A + (j - B))) (le-ltb j B le)

  id_added : (i : ℕ) → f (suc (B + i)) ≡ suc (A + i)
  id_added i = let e = place_added (B + i) (omega arith) in omega (arith, e)

  -- where a line's id is compared
  same_place : (i j : ℕ) → Good (suc j) → A + i ≡ new_place B A places j → B + i ≡ j
  same_place i j g e = elim (cases_lt j B) [
    | inl lt ↦ let a = place_old j lt in let b = (g lt).within in absurd (omega (arith, a, b, e))
    | inr le ↦ let a = place_added j le in omega (arith, a, e, le)
  ]

  same_id : (i id : ℕ) → Good id → (suc (B + i) == id) ≡ (f (suc (B + i)) == f id)
  same_id i zero g = same_test _ _ _ _ (λ e. absurd (omega (arith, e))) (λ e. let a = id_added i in absurd (omega (arith, a, e)))
  same_id i (suc j) g = same_test _ _ _ _ (λ e. ap f e) (λ e. let a = id_added i in let b = same_place i j g (omega (arith, a, e)) in omega (arith, b))

  -- ---- what stands

  -- the clause of each id that is good stands under its new id
  abbrev Reads : StandingClauses → StandingClauses → Type 0
  Reads s s' = (id : ℕ) → Good id → clause_under s' (f id) ≡ clause_under s id

  reads_start : Reads (enumerate_from 1 old) (enumerate_from 1 new)
  reads_start zero g = none_before 1 new 0 (omega arith) ∙ sym (none_before 1 old 0 (omega arith))
  reads_start (suc j) g = under_suc new (new_place B A places j) ∙ places_same ∙ sym (under_suc old j)
    where
      places_same : slice_get new (new_place B A places j) ≡ slice_get old j
      places_same = elim (cases_lt j B) [
        | inl lt ↦ ap (slice_get new) (place_old j lt) ∙ (g lt).same
        | inr le ↦ ap (slice_get new) (place_added j le) ∙ slice_get_past new (A + (j - B)) (omega arith) ∙ sym (slice_get_past old j le)
      ]

  reads_more : (s s' : StandingClauses) (i : ℕ) (c : Clause) → Reads s s' → Reads ((suc (B + i), c) ∷ s) ((f (suc (B + i)), c) ∷ s')
  reads_more s s' i c r id g = ap₂ (λ b (o : Option Clause). cond b (Some c) o) (sym (same_id i id g)) (r id g)

  -- ---- hints

  used_by : (s s' : StandingClauses) → Reads s s' → (l : Signed) (ids : List ℕ) → AreGood ids → list_any (λ id. is_in_option l (clause_under s' id)) (map f ids) ≡ list_any (λ id. is_in_option l (clause_under s id)) ids
  used_by s s' r l [] g = refl
  used_by s s' r l (id ∷ ids) g = ap₂ (λ a b. is_in_option l a || b) (r id g.0) (used_by s s' r l ids g.1)

  hints_same : (s s' : StandingClauses) → Reads s s' → (ids : List ℕ) → AreGood ids → (known : List Signed) → are_hints_trimmed s' (map f ids) known ≡ are_hints_trimmed s ids known
  hints_same s s' r [] g known = refl
  hints_same s s' r (id ∷ []) g known = ap (λ o. is_falsified_effect (effect_under known o)) (r id g.0)
  hints_same s s' r (id ∷ next ∷ ids) g known =
      ap (λ o. is_used s' (map f (next ∷ ids)) (effect_under known o) (λ l. are_hints_trimmed s' (map f (next ∷ ids)) (l ∷ known))) (r id g.0)
      ∙ by (λ l. hints_same s s' r (next ∷ ids) g.1 (l ∷ known)) (effect_under known (clause_under s id))
    where
      by : ((l : Signed) → are_hints_trimmed s' (map f (next ∷ ids)) (l ∷ known) ≡ are_hints_trimmed s (next ∷ ids) (l ∷ known)) → (e : Effect) → is_used s' (map f (next ∷ ids)) e (λ l. are_hints_trimmed s' (map f (next ∷ ids)) (l ∷ known)) ≡ is_used s (next ∷ ids) e (λ l. are_hints_trimmed s (next ∷ ids) (l ∷ known))
      by ih (Forces l) = ap₂ (λ a b. a && b) (used_by s s' r (opposite_lit l) (next ∷ ids) g.1) (ih l)
      by ih Satisfied = refl
      by ih Falsified = refl
      by ih Unresolved = refl

  -- ---- lines

  hint_cited : (i id : ℕ) → (id == suc (B + i)) ≡ true → (f id == f (suc (B + i))) ≡ true
  hint_cited i id h = eq-eqb _ _ (ap f (eqb-true id (suc (B + i)) h))

  hints_cited : (i : ℕ) (ids : List ℕ) → list_any (λ h. h == suc (B + i)) ids ≡ true → list_any (λ h. h == f (suc (B + i))) (map f ids) ≡ true
  hints_cited i [] h = absurd cc
  hints_cited i (id ∷ ids) h = elim (or_cases (id == suc (B + i)) (list_any (λ h. h == suc (B + i)) ids) h) [
    | inl e ↦ or_left _ _ (hint_cited i id e)
    | inr e ↦ or_right _ _ (hints_cited i ids e)
  ]

  step_cited : (i : ℕ) (step : Step) → is_cited_by (suc (B + i)) step ≡ true → is_cited_by (f (suc (B + i))) (renumbered_step B A places step) ≡ true
  step_cited i (Add id clause hints) h = hints_cited i hints h
  step_cited i (Drop ids) h = absurd cc

  lines_cited : (i : ℕ) (lines : List Line) → list_any (λ (l : Line). is_cited_by (suc (B + i)) l.step) lines ≡ true → list_any (λ (l : Line). is_cited_by (f (suc (B + i))) l.step) (map (renumbered_line B A places) lines) ≡ true
  lines_cited i [] h = absurd cc
  lines_cited i (line ∷ lines) h = elim (or_cases (is_cited_by (suc (B + i)) line.step) (list_any (λ (l : Line). is_cited_by (suc (B + i)) l.step) lines) h) [
    | inl e ↦ or_left _ _ (step_cited i line.step e)
    | inr e ↦ or_right _ _ (lines_cited i lines e)
  ]

  step_renumbered : (step : Step) (lines : List Line) (i : ℕ) (s s' : StandingClauses) (go go' : StandingClauses → Bool) → Reads s s' → IsStepGood step →
      ((t t' : StandingClauses) → Reads t t' → go t ≡ true → go' t' ≡ true) →
      is_step_trimmed s (suc (B + i)) step lines go ≡ true → is_step_trimmed s' (f (suc (B + i))) (renumbered_step B A places step) (map (renumbered_line B A places) lines) go' ≡ true
  step_renumbered (Drop ids) lines i s s' go go' r g next h = absurd cc
  step_renumbered (Add k clause hints) [] i s s' go go' r g next h =
      let a = and_parts (k == suc (B + i) && is_empty_clause clause) (are_hints_trimmed s hints (map opposite_lit clause)) h in
      let b = and_parts (k == suc (B + i)) (is_empty_clause clause) a.0 in
      and_from _ _ (and_from _ _ (hint_cited i k b.0) b.1) (hints_same s s' r hints g (map opposite_lit clause) ∙ a.1)
  step_renumbered (Add k clause hints) (line ∷ later) i s s' go go' r g next h =
      let a = and_parts (k == suc (B + i) && not (is_empty_clause clause) && are_hints_trimmed s hints (map opposite_lit clause) && list_any (λ (l : Line). is_cited_by (suc (B + i)) l.step) (line ∷ later)) (go ((k, clause) ∷ s)) h in
      let b = and_parts (k == suc (B + i) && not (is_empty_clause clause) && are_hints_trimmed s hints (map opposite_lit clause)) (list_any (λ (l : Line). is_cited_by (suc (B + i)) l.step) (line ∷ later)) a.0 in
      let c = and_parts (k == suc (B + i) && not (is_empty_clause clause)) (are_hints_trimmed s hints (map opposite_lit clause)) b.0 in
      let d = and_parts (k == suc (B + i)) (not (is_empty_clause clause)) c.0 in
      let is : k ≡ suc (B + i) = eqb-true k (suc (B + i)) d.0 in
      and_from _ _
      (and_from _ _ (and_from _ _ (and_from _ _ (hint_cited i k d.0) d.1) (hints_same s s' r hints g (map opposite_lit clause) ∙ c.1)) (lines_cited i (line ∷ later) b.1))
      (next ((k, clause) ∷ s) ((f k, clause) ∷ s') (subst (λ (n : ℕ). Reads ((n, clause) ∷ s) ((f n, clause) ∷ s')) (sym is) (reads_more s s' i clause r)) a.1)

  lines_renumbered : (lines : List Line) (i : ℕ) (s s' : StandingClauses) → Reads s s' → AreLinesGood lines → is_trimmed_from s (suc (B + i)) lines ≡ true →
      is_trimmed_from s' (f (suc (B + i))) (map (renumbered_line B A places) lines) ≡ true
  lines_renumbered [] i s s' r g h = absurd cc
  lines_renumbered (line ∷ lines) i s s' r g h =
      step_renumbered line.step lines i s s' (λ t. is_trimmed_from t (suc (B + i) + 1) lines) (λ t. is_trimmed_from t (f (suc (B + i)) + 1) (map (renumbered_line B A places) lines)) r g.0
      (λ t t' r' k.
      let up : suc (B + i) + 1 ≡ suc (B + suc i) = omega arith in
      let here = id_added i in
      let there = id_added (suc i) in
      let next : f (suc (B + suc i)) ≡ f (suc (B + i)) + 1 = omega (arith, here, there) in
      subst (λ (n : ℕ). is_trimmed_from t' n (map (renumbered_line B A places) lines) ≡ true) next (lines_renumbered lines (suc i) t t' r' g.1 (subst (λ (n : ℕ). is_trimmed_from t n lines ≡ true) up k)))
      h

  -- ---- the hints that are named

  good_hints : (ids : List ℕ) → ((id : ℕ) → list_any (λ h. h == id) ids ≡ true → Good id) → AreGood ids
  good_hints [] p = tt
  good_hints (id ∷ ids) p = (p id (or_left _ _ (eq-eqb id id refl)), good_hints ids (λ j h. p j (or_right (id == j) _ h)))

  good_step : (step : Step) → ((id : ℕ) → is_cited_by id step ≡ true → Good id) → IsStepGood step
  good_step (Add id clause hints) p = good_hints hints p
  good_step (Drop ids) p = tt

  good_lines : (lines : List Line) → ((id : ℕ) → is_cited_in lines id ≡ true → Good id) → AreLinesGood lines
  good_lines [] p = tt
  good_lines (line ∷ lines) p = (good_step line.step (λ id h. p id (or_left _ _ h)), good_lines lines (λ id h. p id (or_right (is_cited_by id line.step) _ h)))

  good_cited : (lines : List Line) → AreClausePlaces old new places lines → (id : ℕ) → is_cited_in lines id ≡ true → Good id
  good_cited lines p zero h = tt
  good_cited lines p (suc j) h = λ lt. p j lt h

pub trimmed_renumbered : (old new : List Clause) (places : List ℕ) (lines : List Line) → is_trimmed old lines ≡ true → AreClausePlaces old new places lines →
    is_trimmed new (map (renumbered_line (length old) (length new) places) lines) ≡ true
trimmed_renumbered old new places lines h p =
    let from : length old + 1 ≡ suc (length old + 0) = omega arith in
    let to : new_id (length old) (length new) places (suc (length old + 0)) ≡ length new + 1 = id_added old new places 0 ∙ omega arith in
    subst (λ (n : ℕ). is_trimmed_from (enumerate_from 1 new) n (map (renumbered_line (length old) (length new) places) lines) ≡ true) to
    (lines_renumbered old new places lines 0 (enumerate_from 1 old) (enumerate_from 1 new) (reads_start old new places) (good_lines old new places lines (good_cited old new places lines p))
    (subst (λ (n : ℕ). is_trimmed_from (enumerate_from 1 old) n lines ≡ true) from h))
