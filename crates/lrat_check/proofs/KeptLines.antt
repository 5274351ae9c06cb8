-- The kept lines, with new ids, make a trimmed derivation.
use Rattle.std.proofs.Common.{◌≡◌, refl, sym, ◌∙◌, ap, subst, ℕ, ◌+◌, ◌<◌, ◌≤◌, Bool, true, false, not, cond, inl, inr, List, [], ◌∷◌, map, length, arith, Option, Some, None, true≢false, eqb-true, eq-eqb, ltb-true, lt-ltb}
use Rattle.std.specs.Prelude.{◌==◌, nat_lt}
use Rattle.std.specs.List.{list_all, list_any, enumerate_from}
use Rattle.std.proofs.lemmas.Bool.{and_parts, and_from, or_cases, or_left, or_right, both_ways, false_from_ne_true}
use Rattle.std.proofs.lemmas.Option.{same_Some}
use Rattle.cnf.specs.Sat.{Clause, opposite_lit, is_tautology}
use Rattle.cnf.specs.declared.derivations.Line.{Line}
use Rattle.cnf.specs.declared.derivations.LineFault.{LineFault}
use Rattle.cnf.specs.declared.derivations.Step.{Step}
use Rattle.cnf.specs.declared.derivations.Step.TheVariants.{Add, Drop}
use Rattle.cnf.specs.Derived.{StandingClauses, clause_under, hints_fault, clause_fault, without, after_step, fault_from, IsAccepted}
use Rattle.cnf.specs.Trimmed.{are_hints_trimmed, is_cited_by, is_empty_clause, is_step_trimmed, is_trimmed_from, is_trimmed}
use Rattle.lrat_check.specs.Trim.{needed_hints, trimmed_hints, Kept, cites_id, keep_line, keep_step, kept_lines, new_id_of, renumbered, trimmed}
use Rattle.lrat_check.specs.Laws.{is_each_added}
use Rattle.lrat_check.proofs.NeededLaws.{cites, needed_trimmed}
use Rattle.lrat_check.proofs.Kept.{under_without, hints_more, line_plain, IsAdded, added_from}

-- the standing clauses with one more, under an id that is not its own
under_other : (k id : ℕ) (d : Clause) (standing : StandingClauses) → (k == id) ≡ false → (c : Clause) → clause_under ((k, d) ∷ standing) id ≡ Some c → clause_under standing id ≡ Some c
under_other k id d standing ne c h = sym (ap (λ b. cond b (Some d) (clause_under standing id)) ne) ∙ h

apart : (a b : ℕ) → a < b → (b == a) ≡ false
apart a b lt = false_from_ne_true _ (λ e. let same : b ≡ a = eqb-true b a e in absurd (omega (arith, lt, same)))

-- ---- a line that a kept line cites has no complementary pair

module _ (id : ℕ) (clause : Clause) where
  abbrev Only : StandingClauses → Type 0
  Only standing = (c : Clause) → clause_under standing id ≡ Some c → c ≡ clause

  abbrev Plain : Type 0
  Plain = is_tautology clause ≡ false

  hint_is_plain : (standing : StandingClauses) (d : Clause) (hints : List ℕ) → Only standing → clause_fault standing d hints ≡ None → cites id (trimmed_hints standing d hints) ≡ true → Plain
  hint_is_plain standing d hints only h c = let p = line_plain standing id d hints h c in subst (λ x. is_tautology x ≡ false) (only p.clause p.is) p.plain

  plain_add : (k : ℕ) (d : Clause) (hints : List ℕ) (later : List Kept) (standing : StandingClauses) (last : ℕ) (next : Option (ℕ × LineFault)) → Only standing → IsAdded standing last k d hints next → (next ≡ None → list_any (cites_id id) later ≡ true → Plain) → list_any (cites_id id) (keep_line k d (trimmed_hints standing d hints) later) ≡ true → Plain
  plain_add k [] hints later standing last next only added ih c = elim (or_cases (cites id (trimmed_hints standing [] hints)) false c) [
    | inl e ↦ hint_is_plain standing [] hints only added.follows e
    | inr e ↦ absurd (true≢false (sym e))
  ]
  plain_add k (l ∷ ls) hints later standing last next only added ih c = cases (list_any (cites_id k) later) c
    where
      cases : (b : Bool) → list_any (cites_id id) (cond b (record { id = k; clause = l ∷ ls; hints = trimmed_hints standing (l ∷ ls) hints } ∷ later) later) ≡ true → Plain
      cases true g = elim (or_cases (cites id (trimmed_hints standing (l ∷ ls) hints)) (list_any (cites_id id) later) g) [
        | inl e ↦ hint_is_plain standing (l ∷ ls) hints only added.follows e
        | inr e ↦ ih (added.goes_on refl) e
      ]
      cases false g = ih (added.goes_on refl) g

  plain_step : (step : Step) (at : ℕ) (lines : List Line) (standing : StandingClauses) (last : ℕ) → id ≤ last → Only standing → after_step step at standing last (λ s k. fault_from lines s k (at + 1)) ≡ None
      → ((s : StandingClauses) (k : ℕ) → id ≤ k → Only s → fault_from lines s k (at + 1) ≡ None → list_any (cites_id id) (kept_lines lines s) ≡ true → Plain)
      → list_any (cites_id id) (keep_step step standing (kept_lines lines)) ≡ true → Plain
  plain_step (Drop ids) at lines standing last le only h ih c = ih (without ids standing) last le (λ d e. only d (under_without ids standing id d e)) h c
  plain_step (Add k d hints) at lines standing last le only h ih c =
      let added = added_from standing last k d hints at (fault_from lines ((k, d) ∷ standing) k (at + 1)) h in
      let lt : id < k = omega (arith, le, added.above) in
      plain_add k d hints (kept_lines lines ((k, d) ∷ standing)) standing last (fault_from lines ((k, d) ∷ standing) k (at + 1)) only added
      (λ e g. ih ((k, d) ∷ standing) k (omega (arith, lt)) (λ x m. only x (under_other k id d standing (apart id k lt) x m)) e g) c

  plain_if_cited : (lines : List Line) (standing : StandingClauses) (last end : ℕ) → id ≤ last → Only standing → fault_from lines standing last end ≡ None → list_any (cites_id id) (kept_lines lines standing) ≡ true → Plain
  plain_if_cited [] standing last end le only h c = absurd (true≢false (sym c))
  plain_if_cited (line ∷ lines) standing last end le only h c = plain_step line.step line.at lines standing last le only h (λ s k l o e g. plain_if_cited lines s k (line.at + 1) l o e g) c

-- ---- the ids of the kept lines

module _ (b : ℕ) where
  above_add : (k : ℕ) (d : Clause) (hs : List ℕ) (later : List Kept) → b < k → (is_empty_clause d ≡ false → list_all (λ l. nat_lt b l.id) later ≡ true) → list_all (λ l. nat_lt b l.id) (keep_line k d hs later) ≡ true
  above_add k [] hs later lt ih = and_from _ _ (lt-ltb b k lt) refl
  above_add k (l ∷ ls) hs later lt ih =
      elim (list_any (cites_id k) later) as (λ c. list_all (λ l. nat_lt b l.id) (cond c (record { id = k; clause = l ∷ ls; hints = hs } ∷ later) later) ≡ true) [ true ↦ and_from _ _ (lt-ltb b k lt) (ih refl) | false ↦ ih refl ]

  above_step : (step : Step) (at : ℕ) (lines : List Line) (standing : StandingClauses) (last : ℕ) → b ≤ last → after_step step at standing last (λ s k. fault_from lines s k (at + 1)) ≡ None
      → ((s : StandingClauses) (k : ℕ) → b ≤ k → fault_from lines s k (at + 1) ≡ None → list_all (λ l. nat_lt b l.id) (kept_lines lines s) ≡ true)
      → list_all (λ l. nat_lt b l.id) (keep_step step standing (kept_lines lines)) ≡ true
  above_step (Drop ids) at lines standing last le h ih = ih (without ids standing) last le h
  above_step (Add k d hints) at lines standing last le h ih =
      let added = added_from standing last k d hints at (fault_from lines ((k, d) ∷ standing) k (at + 1)) h in
      let lt : b < k = omega (arith, le, added.above) in
      above_add k d (trimmed_hints standing d hints) (kept_lines lines ((k, d) ∷ standing)) lt (λ e. ih ((k, d) ∷ standing) k (omega (arith, lt)) (added.goes_on e))

  kept_above : (lines : List Line) (standing : StandingClauses) (last end : ℕ) → b ≤ last → fault_from lines standing last end ≡ None → list_all (λ l. nat_lt b l.id) (kept_lines lines standing) ≡ true
  kept_above [] standing last end le h = refl
  kept_above (line ∷ lines) standing last end le h = above_step line.step line.at lines standing last le h (λ s k l e. kept_above lines s k (line.at + 1) l e)

cites_map : (f : ℕ → ℕ) (i : ℕ) (ids : List ℕ) → cites i ids ≡ true → cites (f i) (map f ids) ≡ true
cites_map f i [] h = absurd (true≢false (sym h))
cites_map f i (j ∷ ids) h = elim (or_cases (j == i) (cites i ids) h) [ inl e ↦ or_left _ _ (eq-eqb _ _ (ap f (eqb-true j i e))) | inr e ↦ or_right _ _ (cites_map f i ids e) ]

cited_renumbered : (id n : ℕ) (kept : List Kept) (numbers : List (ℕ × ℕ)) (next at : ℕ) → new_id_of numbers id ≡ n → list_all (λ l. nat_lt id l.id) kept ≡ true → list_any (cites_id id) kept ≡ true → list_any (λ l. is_cited_by n l.step) (renumbered numbers next at kept) ≡ true
cited_renumbered id n [] numbers next at is above h = absurd (true≢false (sym h))
cited_renumbered id n (line ∷ kept) numbers next at is above h =
    let a = and_parts (nat_lt id line.id) (list_all (λ l. nat_lt id l.id) kept) above in
    elim (or_cases (cites id line.hints) (list_any (cites_id id) kept) h) [
      | inl e ↦ or_left _ _ (subst (λ (x : ℕ). cites x (map (new_id_of numbers) line.hints) ≡ true) is (cites_map (new_id_of numbers) id line.hints e))
      | inr e ↦ or_right _ _ (cited_renumbered id n kept ((line.id, next) ∷ numbers) (next + 1) (at + 1) (ap (λ b. cond b next (new_id_of numbers id)) (apart id line.id (ltb-true id line.id a.0)) ∙ is) a.1 e)
    ]

-- ---- the form

first_of_more : (other : StandingClauses) (next : ℕ) (d : Clause) (hs : List ℕ) (later : List Line) (test : StandingClauses → Bool) → is_empty_clause d ≡ false → are_hints_trimmed other hs (map opposite_lit d) ≡ true → list_any (λ l. is_cited_by next l.step) later ≡ true → test ((next, d) ∷ other) ≡ true → is_step_trimmed other next (Add next d hs) later test ≡ true
first_of_more other next d hs [] test e h c t = absurd (true≢false (sym c))
first_of_more other next d hs (line ∷ later) test e h c t = and_from _ _ (and_from _ _ (and_from _ _ (and_from _ _ (eq-eqb next next refl) (ap not e)) h) c) t

abbrev Reads : StandingClauses → StandingClauses → List (ℕ × ℕ) → List Kept → Type 0
Reads standing other numbers kept = (i : ℕ) → list_any (cites_id i) kept ≡ true → (c : Clause) → clause_under standing i ≡ Some c → clause_under other (new_id_of numbers i) ≡ Some c

abbrev Below : StandingClauses → ℕ → Type 0
Below other next = (x : ℕ) (c : Clause) → clause_under other x ≡ Some c → x < next

abbrev IsForm : StandingClauses → ℕ → List (ℕ × ℕ) → ℕ → List Kept → Type 0
IsForm other next numbers at kept = is_trimmed_from other next (renumbered numbers next at kept) ≡ true

right_hints : (standing other : StandingClauses) (numbers : List (ℕ × ℕ)) (d : Clause) (hints : List ℕ) → is_tautology d ≡ false → clause_fault standing d hints ≡ None → ((i : ℕ) → cites i (trimmed_hints standing d hints) ≡ true → (c : Clause) → clause_under standing i ≡ Some c → clause_under other (new_id_of numbers i) ≡ Some c) → are_hints_trimmed other (map (new_id_of numbers) (trimmed_hints standing d hints)) (map opposite_lit d) ≡ true
right_hints standing other numbers d hints plain h agree =
    hints_more standing other (new_id_of numbers) (trimmed_hints standing d hints) (map opposite_lit d) agree
    (subst (λ hs. are_hints_trimmed standing hs (map opposite_lit d) ≡ true) (sym (ap (λ b. cond b [] (needed_hints standing hints (map opposite_lit d))) plain))
    (needed_trimmed standing hints (map opposite_lit d) (sym (ap (λ b. cond b None (hints_fault standing hints (map opposite_lit d))) plain) ∙ h)))

below_more : (other : StandingClauses) (next : ℕ) (d : Clause) → Below other next → Below ((next, d) ∷ other) (next + 1)
below_more other next d below x c h = cases (next == x) refl h
  where
    cases : (b : Bool) → (next == x) ≡ b → cond b (Some d) (clause_under other x) ≡ Some c → x < next + 1
    cases true e g = let same : next ≡ x = eqb-true next x e in omega (arith, same)
    cases false e g = omega (arith, below x c g)

reads_more : (standing other : StandingClauses) (numbers : List (ℕ × ℕ)) (k next : ℕ) (d : Clause) (kept : List Kept) → Below other next → Reads standing other numbers kept → Reads ((k, d) ∷ standing) ((next, d) ∷ other) ((k, next) ∷ numbers) kept
reads_more standing other numbers k next d kept below reads i m c h = cases (k == i) refl h
  where
    at_number : (x : ℕ) → x < next → clause_under other x ≡ Some c → clause_under ((next, d) ∷ other) x ≡ Some c
    at_number x lt e = ap (λ b. cond b (Some d) (clause_under other x)) (apart x next lt) ∙ e

    cases : (b : Bool) → (k == i) ≡ b → cond b (Some d) (clause_under standing i) ≡ Some c → clause_under ((next, d) ∷ other) (cond (k == i) next (new_id_of numbers i)) ≡ Some c
    cases true e g = subst (λ b. clause_under ((next, d) ∷ other) (cond b next (new_id_of numbers i)) ≡ Some c) (sym e) (ap (λ b. cond b (Some d) (clause_under other next)) (eq-eqb next next refl) ∙ g)
    cases false e g =
        let r = reads i m c g in
        subst (λ b. clause_under ((next, d) ∷ other) (cond b next (new_id_of numbers i)) ≡ Some c) (sym e) (at_number (new_id_of numbers i) (below (new_id_of numbers i) c r) r)

form_add : (k : ℕ) (d : Clause) (hints : List ℕ) (lines : List Line) (end : ℕ) (standing other : StandingClauses) (numbers : List (ℕ × ℕ)) (last next at : ℕ) → IsAdded standing last k d hints (fault_from lines ((k, d) ∷ standing) k end) → Reads standing other numbers (keep_line k d (trimmed_hints standing d hints) (kept_lines lines ((k, d) ∷ standing))) → Below other next
    → ((s other' : StandingClauses) (numbers' : List (ℕ × ℕ)) (k' next' at' : ℕ) → fault_from lines s k' end ≡ None → Reads s other' numbers' (kept_lines lines s) → Below other' next' → IsForm other' next' numbers' at' (kept_lines lines s))
    → IsForm other next numbers at (keep_line k d (trimmed_hints standing d hints) (kept_lines lines ((k, d) ∷ standing)))
form_add k [] hints lines end standing other numbers last next at added reads below ih =
    and_from _ _ (and_from _ _ (eq-eqb next next refl) refl) (right_hints standing other numbers [] hints refl added.follows (λ i m c h. reads i (or_left _ _ m) c h))
form_add k (l ∷ ls) hints lines end standing other numbers last next at added reads below ih = cases (list_any (cites_id k) later) refl reads
  where
    d : Clause
    d = l ∷ ls

    later : List Kept
    later = kept_lines lines ((k, l ∷ ls) ∷ standing)

    line : Kept
    line = record { id = k; clause = l ∷ ls; hints = trimmed_hints standing (l ∷ ls) hints }

    passes : fault_from lines ((k, l ∷ ls) ∷ standing) k end ≡ None
    passes = added.goes_on refl

    only : Only k (l ∷ ls) ((k, l ∷ ls) ∷ standing)
    only c h = sym (same_Some (l ∷ ls) c (sym (ap (λ b. cond b (Some (l ∷ ls)) (clause_under standing k)) (eq-eqb k k refl)) ∙ h))

    cases : (b : Bool) → list_any (cites_id k) later ≡ b → Reads standing other numbers (cond b (line ∷ later) later) → IsForm other next numbers at (cond b (line ∷ later) later)
    cases true e r =
        let plain : is_tautology (l ∷ ls) ≡ false = plain_if_cited k (l ∷ ls) lines ((k, l ∷ ls) ∷ standing) k end (omega arith) only passes e in
        first_of_more other next (l ∷ ls) (map (new_id_of numbers) (trimmed_hints standing (l ∷ ls) hints)) (renumbered ((k, next) ∷ numbers) (next + 1) (at + 1) later) _ refl
        (right_hints standing other numbers (l ∷ ls) hints plain added.follows (λ i m c h. r i (or_left _ _ m) c h))
        (cited_renumbered k next later ((k, next) ∷ numbers) (next + 1) (at + 1) (ap (λ b. cond b next (new_id_of numbers k)) (eq-eqb k k refl)) (kept_above k lines ((k, l ∷ ls) ∷ standing) k end (omega arith) passes) e)
        (ih ((k, l ∷ ls) ∷ standing) ((next, l ∷ ls) ∷ other) ((k, next) ∷ numbers) k (next + 1) (at + 1) passes (reads_more standing other numbers k next (l ∷ ls) later below (λ i m c h. r i (or_right _ _ m) c h)) (below_more other next (l ∷ ls) below))
    cases false e r =
        ih ((k, l ∷ ls) ∷ standing) other numbers k next at passes (λ i m c h. r i m c (under_other k i (l ∷ ls) standing (not_cited i m) c h)) below
      where
        not_cited : (i : ℕ) → list_any (cites_id i) later ≡ true → (k == i) ≡ false
        not_cited i m = false_from_ne_true _ (λ g. both_ways _ e (subst (λ (x : ℕ). list_any (cites_id x) later ≡ true) (sym (eqb-true k i g)) m))

form_step : (step : Step) (line_at : ℕ) (lines : List Line) (standing other : StandingClauses) (numbers : List (ℕ × ℕ)) (last next at : ℕ) → after_step step line_at standing last (λ s k. fault_from lines s k (line_at + 1)) ≡ None → Reads standing other numbers (keep_step step standing (kept_lines lines)) → Below other next
    → ((s other' : StandingClauses) (numbers' : List (ℕ × ℕ)) (k' next' at' : ℕ) → fault_from lines s k' (line_at + 1) ≡ None → Reads s other' numbers' (kept_lines lines s) → Below other' next' → IsForm other' next' numbers' at' (kept_lines lines s))
    → IsForm other next numbers at (keep_step step standing (kept_lines lines))
form_step (Drop ids) line_at lines standing other numbers last next at h reads below ih =
    ih (without ids standing) other numbers last next at h (λ i m c e. reads i m c (under_without ids standing i c e)) below
form_step (Add k d hints) line_at lines standing other numbers last next at h reads below ih =
    form_add k d hints lines (line_at + 1) standing other numbers last next at (added_from standing last k d hints line_at (fault_from lines ((k, d) ∷ standing) k (line_at + 1)) h) reads below ih

form_from : (lines : List Line) (standing other : StandingClauses) (numbers : List (ℕ × ℕ)) (last next at end : ℕ) → fault_from lines standing last end ≡ None → Reads standing other numbers (kept_lines lines standing) → Below other next → IsForm other next numbers at (kept_lines lines standing)
form_from [] standing other numbers last next at end h reads below = cc
form_from (line ∷ lines) standing other numbers last next at end h reads below =
    form_step line.step line.at lines standing other numbers last next at h reads below (λ s o ns k n a e r b. form_from lines s o ns k n a (line.at + 1) e r b)

numbered_below : (n : ℕ) (clauses : List Clause) (x : ℕ) (c : Clause) → clause_under (enumerate_from n clauses) x ≡ Some c → x < n + length clauses
numbered_below n [] x c h = cc
numbered_below n (d ∷ clauses) x c h = cases (n == x) refl h (numbered_below (n + 1) clauses x c)
  where
    cases : (b : Bool) → (n == x) ≡ b → cond b (Some d) (clause_under (enumerate_from (n + 1) clauses) x) ≡ Some c → (clause_under (enumerate_from (n + 1) clauses) x ≡ Some c → x < n + 1 + length clauses) → x < n + length (d ∷ clauses)
    cases true e g ih = let same : n ≡ x = eqb-true n x e in omega (arith, same)
    cases false e g ih = omega (arith, ih g)

pub trim_right : (clauses : List Clause) (lines : List Line) → IsAccepted clauses lines → is_trimmed clauses (trimmed clauses lines) ≡ true
trim_right clauses lines h =
    form_from lines (enumerate_from 1 clauses) (enumerate_from 1 clauses) [] (length clauses) (length clauses + 1) 1 1 h (λ i m c e. e) (λ x c e. omega (arith, numbered_below 1 clauses x c e))

-- ---- no new clause

module _ (test : Clause → Bool) where
  clauses_add : (k : ℕ) (d : Clause) (hs : List ℕ) (later : List Kept) → test d ≡ true → list_all (λ l. test l.clause) later ≡ true → list_all (λ l. test l.clause) (keep_line k d hs later) ≡ true
  clauses_add k [] hs later t h = and_from _ _ t refl
  clauses_add k (l ∷ ls) hs later t h =
      elim (list_any (cites_id k) later) as (λ c. list_all (λ l. test l.clause) (cond c (record { id = k; clause = l ∷ ls; hints = hs } ∷ later) later) ≡ true) [ true ↦ and_from _ _ t h | false ↦ h ]

  clauses_step : (step : Step) (standing : StandingClauses) (go : StandingClauses → List Kept) → is_each_added test step ≡ true → ((s : StandingClauses) → list_all (λ l. test l.clause) (go s) ≡ true) → list_all (λ l. test l.clause) (keep_step step standing go) ≡ true
  clauses_step (Drop ids) standing go t h = h (without ids standing)
  clauses_step (Add k d hints) standing go t h = clauses_add k d (trimmed_hints standing d hints) (go ((k, d) ∷ standing)) t (h ((k, d) ∷ standing))

  clauses_kept : (lines : List Line) (standing : StandingClauses) → list_all (λ l. is_each_added test l.step) lines ≡ true → list_all (λ l. test l.clause) (kept_lines lines standing) ≡ true
  clauses_kept [] standing h = refl
  clauses_kept (line ∷ lines) standing h =
      let e = and_parts (is_each_added test line.step) (list_all (λ l. is_each_added test l.step) lines) h in
      clauses_step line.step standing (kept_lines lines) e.0 (λ s. clauses_kept lines s e.1)

  clauses_renumbered : (numbers : List (ℕ × ℕ)) (next at : ℕ) (kept : List Kept) → list_all (λ l. test l.clause) kept ≡ true → list_all (λ l. is_each_added test l.step) (renumbered numbers next at kept) ≡ true
  clauses_renumbered numbers next at [] h = refl
  clauses_renumbered numbers next at (line ∷ kept) h =
      let e = and_parts (test line.clause) (list_all (λ l. test l.clause) kept) h in
      and_from _ _ e.0 (clauses_renumbered ((line.id, next) ∷ numbers) (next + 1) (at + 1) kept e.1)

  pub no_new_clause : (clauses : List Clause) (lines : List Line) → list_all (λ l. is_each_added test l.step) lines ≡ true → list_all (λ l. is_each_added test l.step) (trimmed clauses lines) ≡ true
  no_new_clause clauses lines h = clauses_renumbered [] (length clauses + 1) 1 (kept_lines lines (enumerate_from 1 clauses)) (clauses_kept lines (enumerate_from 1 clauses) h)
