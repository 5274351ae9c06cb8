-- The ids of a trimmed derivation are at most as many as its clauses and its lines.
use Rattle.std.proofs.Common.{◌≡◌, refl, sym, ◌∙◌, ℕ, zero, suc, ◌+◌, ◌<◌, ◌≤◌, All, Bool, true, false, not, ◌&&◌, cond, List, [], ◌∷◌, map, length, arith, Option, Some, None, eqb-true}
use Rattle.std.specs.Prelude.{◌==◌}
use Rattle.std.specs.List.{AllByRecursion, list_any, enumerate_from}
use Rattle.std.proofs.lemmas.Bool.{and_parts}
use Rattle.std.proofs.lemmas.Option.{slice_get_within, none-some}
use Rattle.std.proofs.lemmas.List.Elements.{All-from_recursion}
use Rattle.cnf.specs.declared.derivations.Line.{Line}
use Rattle.cnf.specs.declared.derivations.Step.{Step}
use Rattle.cnf.specs.declared.derivations.Step.TheVariants.{Add, Drop}
use Rattle.cnf.specs.Signed.{Signed}
use Rattle.cnf.specs.Sat.{Clause, opposite_lit}
use Rattle.cnf.specs.Derived.{StandingClauses, clause_under, Effect, Forces}
use Rattle.cnf.specs.Trimmed.{is_in_option, effect_under, is_falsified_effect, is_used, are_hints_trimmed, is_cited_by, is_empty_clause, is_step_trimmed, is_trimmed_from, is_trimmed}
use Rattle.renumbering.specs.Renumbered.{HasIdsBelow}
use Rattle.renumbering.proofs.RenumberedLaws.{under_suc}
use Rattle.cnf.proofs.StandingLaws.{none_before}

-- each id that stands is below a bound
abbrev Below : ℕ → StandingClauses → Type 0
Below n s = (id : ℕ) (c : Clause) → clause_under s id ≡ Some c → id < n

below_start : (cs : List Clause) → Below (length cs + 1) (enumerate_from 1 cs)
below_start cs zero c e = absurd (none-some _ (sym (none_before 1 cs 0 (omega arith)) ∙ e))
below_start cs (suc j) c e = let w = slice_get_within cs j c (sym (under_suc cs j) ∙ e) in omega (arith, w)

below_more : (n k : ℕ) (clause : Clause) (s : StandingClauses) → k ≡ n → Below n s → Below (n + 1) ((k, clause) ∷ s)
below_more n k clause s same h id c e = by (k == id) refl e
  where
    by : (b : Bool) → (k == id) ≡ b → cond b (Some clause) (clause_under s id) ≡ Some c → id < n + 1
    by true t f = let is = eqb-true k id t in omega (arith, is, same)
    by false t f = let w = h id c f in omega (arith, w)

module _ (s : StandingClauses) (n : ℕ) (below : Below n s) where
  last_below : (id : ℕ) (known : List Signed) (o : Option Clause) → clause_under s id ≡ o → is_falsified_effect (effect_under known o) ≡ true → id < n
  last_below id known None e h = absurd cc
  last_below id known (Some c) e h = below id c e

  -- what a hint forces
  forced : (e : Effect) (ids : List ℕ) (go : Signed → Bool) → is_used s ids e go ≡ true → (l : Signed) × (go l ≡ true)
  forced (Forces l) ids go h = (l, (and_parts (list_any (λ id. is_in_option (opposite_lit l) (clause_under s id)) ids) (go l) h).1)
  forced p ids go h = absurd cc

  first_below : (id : ℕ) (known : List Signed) (ids : List ℕ) (go : Signed → Bool) (o : Option Clause) → clause_under s id ≡ o → is_used s ids (effect_under known o) go ≡ true → id < n
  first_below id known ids go None e h = absurd cc
  first_below id known ids go (Some c) e h = below id c e

  hints_below : (ids : List ℕ) (known : List Signed) → are_hints_trimmed s ids known ≡ true → AllByRecursion (λ id. id < n) ids
  hints_below [] known h = tt
  hints_below (id ∷ []) known h = (last_below id known (clause_under s id) refl h, tt)
  hints_below (id ∷ next ∷ ids) known h =
      let go = λ (l : Signed). are_hints_trimmed s (next ∷ ids) (l ∷ known) in
      let f = forced (effect_under known (clause_under s id)) (next ∷ ids) go h in
      (first_below id known (next ∷ ids) go (clause_under s id) refl h, hints_below (next ∷ ids) (f.0 ∷ known) f.1)

below_all : (n bound : ℕ) (ids : List ℕ) → n ≤ bound → AllByRecursion (λ id. id < n) ids → All (λ id. id < bound) ids
below_all n bound ids le h = All-from_recursion (λ id. id < bound) ids (up ids h)
  where
    up : (xs : List ℕ) → AllByRecursion (λ id. id < n) xs → AllByRecursion (λ id. id < bound) xs
    up [] h = tt
    up (x ∷ xs) h = (omega (arith, h.0, le), up xs h.1)

module _ (bound : ℕ) where
  step_below : (step : Step) (lines : List Line) (s : StandingClauses) (n : ℕ) (go : StandingClauses → Bool) → Below n s → n < bound → is_step_trimmed s n step lines go ≡ true → HasIdsBelow bound step
  step_below (Drop ids) lines s n go b lt h = absurd cc
  step_below (Add k clause hints) [] s n go b lt h =
      let a = and_parts (k == n && is_empty_clause clause) (are_hints_trimmed s hints (map opposite_lit clause)) h in
      let is = eqb-true k n (and_parts (k == n) (is_empty_clause clause) a.0).0 in
      (omega (arith, is, lt), below_all n bound hints (omega (arith, lt)) (hints_below s n b hints (map opposite_lit clause) a.1))
  step_below (Add k clause hints) (line ∷ later) s n go b lt h =
      let a = and_parts (k == n && not (is_empty_clause clause) && are_hints_trimmed s hints (map opposite_lit clause) && list_any (λ (l : Line). is_cited_by n l.step) (line ∷ later)) (go ((k, clause) ∷ s)) h in
      let c = and_parts (k == n && not (is_empty_clause clause) && are_hints_trimmed s hints (map opposite_lit clause)) (list_any (λ (l : Line). is_cited_by n l.step) (line ∷ later)) a.0 in
      let d = and_parts (k == n && not (is_empty_clause clause)) (are_hints_trimmed s hints (map opposite_lit clause)) c.0 in
      let is = eqb-true k n (and_parts (k == n) (not (is_empty_clause clause)) d.0).0 in
      (omega (arith, is, lt), below_all n bound hints (omega (arith, lt)) (hints_below s n b hints (map opposite_lit clause) d.1))

  -- what the rest of the lines says, where there is one
  rest_trimmed : (step : Step) (line : Line) (lines : List Line) (s : StandingClauses) (n : ℕ) (go : StandingClauses → Bool) → Below n s → is_step_trimmed s n step (line ∷ lines) go ≡ true → (t : StandingClauses) × Below (n + 1) t × (go t ≡ true)
  rest_trimmed (Drop ids) line lines s n go b h = absurd cc
  rest_trimmed (Add k clause hints) line lines s n go b h =
      let a = and_parts (k == n && not (is_empty_clause clause) && are_hints_trimmed s hints (map opposite_lit clause) && list_any (λ (l : Line). is_cited_by n l.step) (line ∷ lines)) (go ((k, clause) ∷ s)) h in
      let c = and_parts (k == n && not (is_empty_clause clause) && are_hints_trimmed s hints (map opposite_lit clause)) (list_any (λ (l : Line). is_cited_by n l.step) (line ∷ lines)) a.0 in
      let d = and_parts (k == n && not (is_empty_clause clause)) (are_hints_trimmed s hints (map opposite_lit clause)) c.0 in
      let is = eqb-true k n (and_parts (k == n) (not (is_empty_clause clause)) d.0).0 in
      ((k, clause) ∷ s, below_more n k clause s is b, a.1)

  lines_below : (lines : List Line) (s : StandingClauses) (n : ℕ) → Below n s → n + length lines ≤ bound → is_trimmed_from s n lines ≡ true → AllByRecursion (λ (line : Line). HasIdsBelow bound line.step) lines
  lines_below [] s n b le h = tt
  lines_below (line ∷ []) s n b le h = (step_below line.step [] s n (λ t. is_trimmed_from t (n + 1) []) b (omega (arith, le)) h, tt)
  lines_below (line ∷ next ∷ lines) s n b le h =
      let go = λ (t : StandingClauses). is_trimmed_from t (n + 1) (next ∷ lines) in
      let r = rest_trimmed line.step next lines s n go b h in
      (step_below line.step (next ∷ lines) s n go b (omega (arith, le)) h, lines_below (next ∷ lines) r.0 (n + 1) r.1 (omega (arith, le)) r.2)

pub ids_below : (old : List Clause) (lines : List Line) (bound : ℕ) → length old + 1 + length lines ≤ bound → is_trimmed old lines ≡ true → All (λ (line : Line). HasIdsBelow bound line.step) lines
ids_below old lines bound le h = All-from_recursion (λ (line : Line). HasIdsBelow bound line.step) lines (lines_below bound lines (enumerate_from 1 old) (length old + 1) (below_start old) le h)
