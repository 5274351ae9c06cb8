-- The clauses of the sets that a map does not cover.
use mathlib.Core.Bool.{not-not}
use Rattle.std.proofs.Common.{◌≡◌, refl, sym, ◌∙◌, ap, ap₂, subst, ℕ, zero, suc, ◌+◌, ◌-◌, ◌<◌, ◌≤◌, Bool, true, false, not, ◌&&◌, ◌||◌, cond, List, [], ◌∷◌, ◌++◌, map, filter, take, drop, append_assoc, length, length-append, inl, inr, ◌⊎◌, arith, true≢false, eqb-true, eq-eqb, ltb-true, le-leb, leb-true, get_or, All}
use Rattle.std.specs.Prelude.{◌==◌, nat_lt, nat_le, sum_by}
use Rattle.std.specs.Bool.{beq}
use Rattle.std.specs.List.{list_all, list_any}
use Rattle.std.proofs.lemmas.Bool.{and_parts, and_from, and_cases, or_left, or_right, both_ways, not-true, not_from_false, false_from_ne_true}
use Rattle.std.proofs.lemmas.List.Folds.{list_all-append, list_all-map}
use Rattle.std.proofs.lemmas.List.Elements.{filter-append}
use Rattle.std.proofs.lemmas.List.Sums.{sum_by-append}
use Rattle.lists.proofs.TestLaws.{all_read, all_weaker}
use Rattle.vocab.proofs.Ranges.{below_more}
use Rattle.cnf.specs.ClauseList.{ClauseList, IsFullFor}
use Rattle.cnf.specs.Derived.{IsAccepted}
use Rattle.cnf.specs.Fresh.{is_over}
use Rattle.cnf.specs.Sat.{Clause, is_clause_true, is_lit_true, is_satisfied}
use Rattle.cnf.specs.Signed.{Signed}
use Rattle.cnf.specs.declared.derivations.Line.{Line}
use Rattle.cnf.proofs.SoundLaws.{accepted_unsatisfiable}
use Rattle.meaning.specs.Cores.{is_core_from}
use Rattle.meaning.specs.Space.{below}
use Rattle.meaning.proofs.SpaceLaws.{any_at, any_from}
use Rattle.meaning.proofs.TestLaws.{any-agree, list_any-map, not-or}
use Rattle.meaning.proofs.CoreLaws.{core_in_range, filter_core}
use Rattle.search_logs.specs.Spent.{has_place}
use Rattle.search_logs.proofs.PlaceLaws.{member_passes}
use Rattle.axiom_sets.specs.declared.maps.AxiomMap.{AxiomMap}
use Rattle.axiom_sets.specs.Sets.{is_set, is_within, has_part, has_whole}
use Rattle.axiom_sets.specs.Maps.{covers, IsTidy}
use Rattle.axiom_sets.specs.Next.{lacks_some, goes_beyond, uncovered_clauses, chosen, AreTooMany}
use Rattle.meaning.proofs.BitLaws.{beq-false}

-- ---- places of sets

-- a set is of so many axioms: each place is below their number
pub places_below : (count : ℕ) (set : List ℕ) → is_set count set ≡ true → list_all (λ k. nat_lt k count) set ≡ true
places_below count set h = core_in_range 0 count set h

pub member_below : (count : ℕ) (set : List ℕ) (k : ℕ) → is_set count set ≡ true → has_place set k ≡ true → k < count
member_below count set k h m = ltb-true k count (member_passes (λ c. nat_lt c count) set k (places_below count set h) m)

pub place_at : (count : ℕ) (set : List ℕ) (i d : ℕ) → is_set count set ≡ true → i < length set → get_or set i d < count
place_at count set i d h lt = ltb-true _ count (all_read (λ c. nat_lt c count) set i d lt (places_below count set h))

-- a set that does not lie within another has an axiom that is none of that
outside : (set other : List ℕ) → is_within set other ≡ false → (k : ℕ) × (has_place set k ≡ true) × (has_place other k ≡ false)
outside [] other h = absurd (true≢false h)
outside (x ∷ set) other h = elim (and_cases (has_place other x) (is_within set other) h) [
  | inl here ↦ (x, or_left _ _ (eq-eqb x x refl), here)
  | inr later ↦ let r = outside set other later in (r.0, or_right (x == r.0) _ r.1, r.2)
]

any_filter : {X : Type 0} (p keep : X → Bool) (xs : List X) → list_any p (filter keep xs) ≡ list_any (λ x. keep x && p x) xs
any_filter p keep [] = refl
any_filter p keep (x ∷ xs) = cases (keep x) (any_filter p keep xs)
  where
    cases : (b : Bool) → list_any p (filter keep xs) ≡ list_any (λ y. keep y && p y) xs → list_any p (cond b (x ∷ filter keep xs) (filter keep xs)) ≡ ((b && p x) || list_any (λ y. keep y && p y) xs)
    cases true ih = ap (λ b. p x || b) ih
    cases false ih = ih

-- ---- the set of an assignment

pub chosen_is_set : (v : ℕ → Bool) (count : ℕ) → is_set count (chosen v count) ≡ true
chosen_is_set v count = let e : 0 + count ≡ count = omega arith in subst (λ (m : ℕ). is_core_from 0 m (chosen v count) ≡ true) e (filter_core (λ a. not (v (a + 1))) count 0)

chosen_place : (v : ℕ → Bool) (count a : ℕ) → a < count → has_place (chosen v count) a ≡ not (v (a + 1))
chosen_place v count a lt = any_filter (λ c. c == a) (λ c. not (v (c + 1))) (below count) ∙ cases (v (a + 1)) refl
  where
    cases : (b : Bool) → v (a + 1) ≡ b → list_any (λ c. not (v (c + 1)) && c == a) (below count) ≡ not b
    cases true e = false_from_ne_true _ (λ h.
        let found = any_at (λ c. not (v (c + 1)) && c == a) count 0 h in
        let p = and_parts (not (v (found.0 + 1))) (found.0 == a) found.3 in
        both_ways (v (a + 1)) (subst (λ (c : ℕ). v (c + 1) ≡ false) (eqb-true found.0 a p.1) (not-true _ p.0)) e)
    cases false e = any_from (λ c. not (v (c + 1)) && c == a) count 0 a (and_from _ _ (not_from_false _ e) (eq-eqb a a refl)) (omega arith) (omega (arith, lt))

-- ---- what the clauses say

by_value : (b c r w : Bool) → c ≡ not b → r ≡ not w → (beq b true || r) ≡ not (c && w)
by_value true c r w e f = ap (λ (x : Bool). not (x && w)) (sym e)
by_value false c r w e f = f ∙ ap (λ (x : Bool). not (x && w)) (sym e)

module _ (v : ℕ → Bool) (count : ℕ) (set : List ℕ) (is : is_set count set ≡ true) (same : (a : ℕ) → a < count → has_place set a ≡ not (v (a + 1))) where
  lacks_says : (s : List ℕ) → list_all (λ k. nat_lt k count) s ≡ true → is_clause_true v (lacks_some s) ≡ not (is_within s set)
  lacks_says [] h = refl
  lacks_says (k ∷ s) h =
      let p = and_parts (nat_lt k count) (list_all (λ c. nat_lt c count) s) h in
      by_value (v (k + 1)) (has_place set k) (is_clause_true v (lacks_some s)) (is_within s set) (same k (ltb-true k count p.0)) (lacks_says s p.1)

  beyond_says : (s : List ℕ) → is_clause_true v (goes_beyond count s) ≡ not (is_within set s)
  beyond_says s =
      list_any-map (is_lit_true v) (λ a. record { variable = a + 1; positive = false }) (filter (λ a. not (has_place s a)) (below count))
      ∙ any_filter (λ a. beq (v (a + 1)) false) (λ a. not (has_place s a)) (below count)
      ∙ any-agree (λ a. not (has_place s a) && beq (v (a + 1)) false) (λ a. not (has_place s a) && has_place set a) count 0
      (λ a lt. let l : a < count = omega (arith, lt) in ap (λ (b : Bool). not (has_place s a) && b) (beq-false (v (a + 1)) ∙ sym (same a l)))
      ∙ cases (is_within set s) refl
    where
      cases : (b : Bool) → is_within set s ≡ b → list_any (λ a. not (has_place s a) && has_place set a) (below count) ≡ not b
      cases true e = false_from_ne_true _ (λ h.
          let found = any_at (λ a. not (has_place s a) && has_place set a) count 0 h in
          let p = and_parts (not (has_place s found.0)) (has_place set found.0) found.3 in
          both_ways (has_place s found.0) (not-true _ p.0) (member_passes (has_place s) set found.0 e p.1))
      cases false e =
          let out = outside set s e in
          let lt = member_below count set out.0 is out.1 in
          any_from (λ a. not (has_place s a) && has_place set a) count 0 out.0 (and_from _ _ (not_from_false _ out.2) out.1) (omega arith) (omega (arith, lt))

  parts_say : (sets : List (List ℕ)) → list_all (is_set count) sets ≡ true → is_satisfied v (map lacks_some sets) ≡ not (has_part sets set)
  parts_say [] h = refl
  parts_say (s ∷ sets) h =
      let p = and_parts (is_set count s) (list_all (is_set count) sets) h in
      ap₂ (λ (a b : Bool). a && b) (lacks_says s (places_below count s p.0)) (parts_say sets p.1) ∙ not-or (is_within s set) (has_part sets set)

  wholes_say : (sets : List (List ℕ)) → is_satisfied v (map (goes_beyond count) sets) ≡ not (has_whole sets set)
  wholes_say [] = refl
  wholes_say (s ∷ sets) = ap₂ (λ (a b : Bool). a && b) (beyond_says s) (wholes_say sets) ∙ not-or (is_within set s) (has_whole sets set)

  -- the assignment that leaves out what is none of a set satisfies the clauses where the map does not cover the set
  pub clauses_say : (sets : AxiomMap) → IsTidy count sets → is_satisfied v (uncovered_clauses count sets) ≡ not (covers sets set)
  clauses_say sets tidy =
      list_all-append (is_clause_true v) (map lacks_some sets.impossible) (map (goes_beyond count) sets.possible ++ map lacks_some sets.open)
      ∙ ap₂ (λ (a b : Bool). a && b) (parts_say sets.impossible tidy.impossible)
      (list_all-append (is_clause_true v) (map (goes_beyond count) sets.possible) (map lacks_some sets.open) ∙ ap₂ (λ (a b : Bool). a && b) (wholes_say sets.possible) (parts_say sets.open tidy.open_sets))
      ∙ three (has_part sets.impossible set) (has_whole sets.possible set) (has_part sets.open set)
    where
      three : (a b c : Bool) → (not a && (not b && not c)) ≡ not ((a || b) || c)
      three true b c = refl
      three false b c = not-or b c

-- the set of an assignment that satisfies the clauses is one that the map does not cover
pub found_uncovered : (count : ℕ) (sets : AxiomMap) → IsTidy count sets → (v : ℕ → Bool) → is_satisfied v (uncovered_clauses count sets) ≡ true → covers sets (chosen v count) ≡ false
found_uncovered count sets tidy v sat = not-true _ (sym (clauses_say v count (chosen v count) (chosen_is_set v count) (chosen_place v count) sets tidy) ∙ sat)

-- where a derivation refutes the clauses, the map covers each set
pub refuted_covers : (count : ℕ) (sets : AxiomMap) → IsTidy count sets → (lines : List Line) → IsAccepted (uncovered_clauses count sets) lines → (set : List ℕ) → is_set count set ≡ true → covers sets set ≡ true
refuted_covers count sets tidy lines accepted set is = cases (covers sets set) refl
  where
    v : ℕ → Bool
    v i = not (has_place set (i - 1))

    same : (a : ℕ) → a < count → has_place set a ≡ not (v (a + 1))
    same a lt = let e : a ≡ a + 1 - 1 = omega arith in ap (has_place set) e ∙ sym (not-not (has_place set (a + 1 - 1)))

    cases : (b : Bool) → covers sets set ≡ b → b ≡ true
    cases true e = refl
    cases false e = absurd (accepted_unsatisfiable (uncovered_clauses count sets) lines accepted v (clauses_say v count set is same sets tidy ∙ not_from_false _ e))

-- ---- the variables of the clauses

over_at : (count k : ℕ) → k < count → (nat_le 1 (k + 1) && nat_le (k + 1) count) ≡ true
over_at count k lt = and_from _ _ (le-leb 1 (k + 1) (omega arith)) (le-leb (k + 1) count (omega (arith, lt)))

lacks_over : (count : ℕ) (s : List ℕ) → is_set count s ≡ true → is_over count (lacks_some s) ≡ true
lacks_over count s h =
    list_all-map (λ (l : Signed). nat_le 1 l.variable && nat_le l.variable count) (λ a. record { variable = a + 1; positive = true }) s
    ∙ all_weaker (λ k. nat_lt k count) (λ k. nat_le 1 (k + 1) && nat_le (k + 1) count) (λ k e. over_at count k (ltb-true k count e)) s (places_below count s h)

beyond_over : (count : ℕ) (s : List ℕ) → is_over count (goes_beyond count s) ≡ true
beyond_over count s =
    list_all-map (λ (l : Signed). nat_le 1 l.variable && nat_le l.variable count) (λ a. record { variable = a + 1; positive = false }) (filter (λ a. not (has_place s a)) (below count))
    ∙ all_weaker (λ k. nat_lt k count) (λ k. nat_le 1 (k + 1) && nat_le (k + 1) count) (λ k e. over_at count k (ltb-true k count e)) (filter (λ a. not (has_place s a)) (below count))
    (let e : 0 + count ≡ count = omega arith in core_in_range 0 count (filter (λ a. not (has_place s a)) (below count)) (subst (λ (m : ℕ). is_core_from 0 m (filter (λ a. not (has_place s a)) (below count)) ≡ true) e (filter_core (λ a. not (has_place s a)) count 0)))

each_over : (count : ℕ) (sets : List (List ℕ)) (clause_of : List ℕ → Clause) (fits : List ℕ → Bool) → ((s : List ℕ) → fits s ≡ true → is_over count (clause_of s) ≡ true) → list_all fits sets ≡ true → list_all (is_over count) (map clause_of sets) ≡ true
each_over count sets clause_of fits on h = list_all-map (is_over count) clause_of sets ∙ all_weaker fits (λ s. is_over count (clause_of s)) on sets h

pub uncovered_over : (count : ℕ) (sets : AxiomMap) → IsTidy count sets → All (λ (clause : Clause). All (λ (l : Signed). l.variable ≤ count) clause) (uncovered_clauses count sets)
uncovered_over count sets tidy = λ i d lt j e lt'.
    let clause = all_read (is_over count) (uncovered_clauses count sets) i d lt over in
    let lit = all_read (λ (l : Signed). nat_le 1 l.variable && nat_le l.variable count) _ j e lt' clause in
    leb-true _ _ (and_parts _ _ lit).1
  where
    over : list_all (is_over count) (uncovered_clauses count sets) ≡ true
    over =
        list_all-append (is_over count) (map lacks_some sets.impossible) (map (goes_beyond count) sets.possible ++ map lacks_some sets.open)
        ∙ and_from _ _ (each_over count sets.impossible lacks_some (is_set count) (lacks_over count) tidy.impossible)
        (list_all-append (is_over count) (map (goes_beyond count) sets.possible) (map lacks_some sets.open)
        ∙ and_from _ _ (each_over count sets.possible (goes_beyond count) (is_set count) (λ s h. beyond_over count s) tidy.possible) (each_over count sets.open lacks_some (is_set count) (lacks_over count) tidy.open_sets))

-- ---- lists without room

pub too_many_more : (clauses more : List Clause) → AreTooMany clauses → AreTooMany (clauses ++ more)
too_many_more clauses more (inl h) = inl (let e = length-append clauses more in omega (arith, h, e))
too_many_more clauses more (inr h) = inr (let e = sum_by-append length clauses more in omega (arith, h, e))

-- a list that is full for a clause has no room for any that it begins
pub full_for_all : (list : ClauseList) (clauses : List Clause) (clause : Clause) (more : List Clause) → list.clauses ≡ clauses → IsFullFor list (length clause) → AreTooMany (clauses ++ clause ∷ more)
full_for_all list clauses clause more same full =
    subst AreTooMany (grouped clauses) (too_many_more (clauses ++ clause ∷ []) more (at_once (subst (λ (cs : List Clause). IsFull cs) same full)))
  where
    IsFull : List Clause → Type 0
    IsFull cs = (4000000 < length cs + 1) ⊎ (60000000 < sum_by length cs + length clause)

    at_once : IsFull clauses → AreTooMany (clauses ++ clause ∷ [])
    at_once (inl h) = inl (let e : length (clauses ++ clause ∷ []) ≡ length clauses + 1 = length-append clauses (clause ∷ []) in omega (arith, h, e))
    at_once (inr h) = inr (let e : sum_by length (clauses ++ clause ∷ []) ≡ sum_by length clauses + (0 + length clause) = sum_by-append length clauses (clause ∷ []) in omega (arith, h, e))

    grouped : (cs : List Clause) → (cs ++ clause ∷ []) ++ more ≡ cs ++ clause ∷ more
    grouped [] = refl
    grouped (c ∷ cs) = ap (λ (l : List Clause). c ∷ l) (grouped cs)

-- at the place of a list where its clauses find no room, all of them have none
pub full_at : (list : ClauseList) (old : List Clause) (clause_of : List ℕ → Clause) (sets : List (List ℕ)) (i : ℕ) (set : List ℕ) → i < length sets → set ≡ get_or sets i set
    → list.clauses ≡ old ++ map clause_of (take i sets) → (clause : Clause) → clause ≡ clause_of set → IsFullFor list (length clause) → AreTooMany (old ++ map clause_of sets)
full_at list old clause_of sets i set lt item so_far clause is full =
    subst AreTooMany (append_assoc old (map clause_of (take i sets)) (clause ∷ map clause_of (drop (suc i) sets)) ∙ ap (λ (cs : List Clause). old ++ cs) (ap (λ (c : Clause). map clause_of (take i sets) ++ c ∷ map clause_of (drop (suc i) sets)) is ∙ whole sets i lt item))
    (full_for_all list (old ++ map clause_of (take i sets)) clause (map clause_of (drop (suc i) sets)) so_far full)
  where
    whole : (xs : List (List ℕ)) (k : ℕ) → k < length xs → set ≡ get_or xs k set → map clause_of (take k xs) ++ clause_of set ∷ map clause_of (drop (suc k) xs) ≡ map clause_of xs
    whole [] k l e = absurd (omega (arith, l))
    whole (x ∷ xs) zero l e = ap (λ (s : List ℕ). clause_of s ∷ map clause_of xs) e
    whole (x ∷ xs) (suc k) l e = ap (λ (cs : List Clause). clause_of x ∷ cs) (whole xs k (omega (arith, l)) e)

-- ---- one place more

pub goes_beyond_more : (count : ℕ) (set : List ℕ) → goes_beyond (count + 1) set ≡ goes_beyond count set ++ cond (not (has_place set count)) (record { variable = count + 1; positive = false } ∷ []) []
goes_beyond_more count set =
    ap (λ (ks : List ℕ). map lit (filter keep ks)) (below_more count) ∙ ap (map lit) (filter-append keep (below count) (count ∷ [])) ∙ map_append (filter keep (below count)) (filter keep (count ∷ [])) ∙ ap (λ (ls : Clause). goes_beyond count set ++ ls) (cases (keep count))
  where
    lit : ℕ → Signed
    lit a = record { variable = a + 1; positive = false }

    keep : ℕ → Bool
    keep a = not (has_place set a)

    map_append : (xs ys : List ℕ) → map lit (xs ++ ys) ≡ map lit xs ++ map lit ys
    map_append [] ys = refl
    map_append (x ∷ xs) ys = ap (λ (l : Clause). lit x ∷ l) (map_append xs ys)

    cases : (b : Bool) → map lit (cond b (count ∷ []) []) ≡ cond b (lit count ∷ []) []
    cases true = refl
    cases false = refl

pub chosen_more : (v : ℕ → Bool) (count : ℕ) → chosen v (count + 1) ≡ chosen v count ++ cond (not (v (count + 1))) (count ∷ []) []
chosen_more v count = ap (filter (λ a. not (v (a + 1)))) (below_more count) ∙ filter-append (λ a. not (v (a + 1))) (below count) (count ∷ [])

pub chosen_step : (v : ℕ → Bool) (n : ℕ) (b : Bool) (old new : List ℕ) → b ≡ v (n + 1) → old ≡ chosen v n → new ≡ old ++ cond (not b) (n ∷ []) [] → new ≡ chosen v (n + 1)
chosen_step v n b old new e same is = is ∙ ap₂ (λ (s : List ℕ) (x : Bool). s ++ cond (not x) (n ∷ []) []) same e ∙ sym (chosen_more v n)

pub beyond_step : (n : ℕ) (set : List ℕ) (b : Bool) (old new : Clause) → b ≡ has_place set n → old ≡ goes_beyond n set → new ≡ old ++ cond (not b) (record { variable = n + 1; positive = false } ∷ []) [] → new ≡ goes_beyond (n + 1) set
beyond_step n set b old new e same is = is ∙ ap₂ (λ (s : Clause) (x : Bool). s ++ cond (not x) (record { variable = n + 1; positive = false } ∷ []) []) same e ∙ sym (goes_beyond_more n set)
