-- what is false at level 0 is traced back and left out
use Rattle.std.proofs.Common.{subst, inl, inr, ◌≡◌, ◌≢◌, ℕ, ◌+◌, ◌-◌, ◌<◌, ◌≤◌, eqb, cond, Bool, true, false, not, List, [], ◌∷◌, ◌++◌, length, get_or, set, take, map, reverse, refl, ap, sym, ◌∙◌, arith, Some, None}
use Rattle.std.specs.Prelude.{All, ◌⊎◌, is_none}
use Rattle.std.proofs.lemmas.Bool.{cases_eq, eq-eqb, ne_eqb, and_from, and_left, and_right, and_parts}
use Rattle.std.proofs.lemmas.List.Elements.{All-more, All-weaker, All-push, All-map, All-contains, All-nil, Contains-push, Contains-get_or}
use Rattle.std.proofs.lemmas.List.{get_or-set_same, get_or-set_other, take_all, take-take, length-take, get_or-take, reverse-append}
use Rattle.std.proofs.lemmas.List.Sums.{sum_by-take-le, sum_by_more}
use Rattle.cnf.specs.Signed.{Signed}
use Rattle.cnf.specs.Sat.{opposite_lit}
use Rattle.propagate.specs.Values.{FailsIn, HoldsIn, AllFail}
use Rattle.propagate.specs.declared.entry.Entry.{Entry}
use Rattle.propagate.specs.Entries.{entry_of, decided_count, Forces}
use Rattle.propagate.specs.TrailState.{TrailState, IsTrail, IsInRange, known, clause_at}
use Rattle.propagate.proofs.TrailLemmas.{is_decided}
use Rattle.propagate.proofs.Levels.{level_at}
use Rattle.propagate.proofs.Holding.{All-entry_of}
use Rattle.propagate.proofs.EntryLemmas.{value_from_entry}
use Rattle.cdcl.specs.Analysis.{is_marked_variable, is_open_entry, IsBelow, RootHolds, RootLeads}
use Rattle.cdcl.specs.Asserting.{IsAsserting}
use Rattle.cdcl.proofs.Found.{Failing, failing}
use Rattle.cdcl.proofs.Leads.{Extends, leads_by, holds_among}
use Rattle.cdcl.proofs.Steps.{stand_in, entry_here, Here}
use Rattle.cdcl.proofs.Tracing.{below_holds, contains_opposite, All-append_left, All-at_end}

-- with one mark more
pub set_more : (seen : List Bool) (i j : ℕ) → i < length seen → get_or seen j false ≡ true → get_or (set seen i true) j false ≡ true
set_more seen i j lt h =
    elim (cases_eq j i) [
      | inl same ↦ rw same (get_or-set_same seen i true false lt)
      | inr differs ↦ get_or-set_other seen i j true false differs ∙ h
    ]

-- with more marks
pub RootHolds-more : (k : List Signed) (t : TrailState) (p : ℕ) (old new : List Bool) → ((i : ℕ) → get_or old i false ≡ true → get_or new i false ≡ true) → RootHolds k t p new → RootHolds k t p old
RootHolds-more k t p old new more h =
    All-weaker (λ e. is_open_entry new 0 e ≡ true → HoldsIn k e.literal) (λ e. is_open_entry old 0 e ≡ true → HoldsIn k e.literal)
    (λ e holds o. let p = and_parts (is_marked_variable old e.literal.variable) (eqb e.level 0) o in holds (and_from (is_marked_variable new e.literal.variable) (eqb e.level 0) (more (e.literal.variable - 1) p.0) p.1)) (take p t.entries) h

RootHolds-extends : (k j : List Signed) (t : TrailState) (p : ℕ) (seen : List Bool) → RootHolds k t p seen → Extends k j → RootHolds j t p seen
RootHolds-extends k j t p seen h x =
    All-weaker (λ e. is_open_entry seen 0 e ≡ true → HoldsIn k e.literal) (λ e. is_open_entry seen 0 e ≡ true → HoldsIn j e.literal)
    (λ e holds o. x.keeps e.literal.variable e.literal.positive (holds o)) (take p t.entries) h

-- a marked literal that is false at level 0
pub fails_at_root : (k : List Signed) (t : TrailState) (seen : List Bool) (l : Signed) (b : IsBelow t l) → RootHolds k t (length t.entries) seen → b.by.level ≡ 0 → get_or seen (l.variable - 1) false ≡ true → FailsIn k l
fails_at_root k t seen l b h root marked =
    let whole : take (length t.entries) t.entries ≡ t.entries = take_all (length t.entries) t.entries (omega arith) in
    let v : b.by.literal.variable ≡ l.variable = ap (λ (x : Signed). x.variable) b.opposite in
    let opens : is_open_entry seen 0 b.by ≡ true = and_from (is_marked_variable seen b.by.literal.variable) (eqb b.by.level 0) (rw v marked) (eq-eqb b.by.level 0 root) in
    let holds : HoldsIn k b.by.literal = All-entry_of (λ e. is_open_entry seen 0 e ≡ true → HoldsIn k e.literal) t.entries l.variable b.by (rw whole at h) b.entry opens in
    subst (λ (x : Signed). HoldsIn k x) b.opposite holds

-- an entry that is not open is passed over
pub RootLeads-skip : (t : TrailState) (p : ℕ) (seen : List Bool) (clause : List Signed) (hints : List ℕ) (d : Entry) → p < length t.entries → is_open_entry seen 0 (get_or t.entries p d) ≡ false →
    RootLeads t (p + 1) seen clause hints → RootLeads t p seen clause hints
RootLeads-skip t p seen clause hints d lt closed h = λ k f r.
    h k f (All-more (λ e. is_open_entry seen 0 e ≡ true → HoldsIn k e.literal) t.entries p d lt r (λ o. absurd (let q = sym closed ∙ o in cc)))

-- an entry that is not open: its variable is not marked, or its level is above 0
pub root_unseen : (t : TrailState) (p : ℕ) (l : Signed) (seen : List Bool) (i : ℕ) → Here t p l → i + 1 ≡ l.variable → get_or seen i false ≡ false → is_open_entry seen 0 (entry_here t p l) ≡ false
root_unseen t p l seen i h at s =
    let z : (entry_here t p l).literal.variable - 1 ≡ i = omega (arith, h.variable) in
    and_left (is_marked_variable seen (entry_here t p l).literal.variable) (eqb (entry_here t p l).level 0) (rw z s)

pub root_high : (t : TrailState) (p : ℕ) (l : Signed) (seen : List Bool) → (entry_here t p l).level ≢ 0 → is_open_entry seen 0 (entry_here t p l) ≡ false
root_high t p l seen d = and_right (is_marked_variable seen (entry_here t p l).literal.variable) (eqb (entry_here t p l).level 0) (ne_eqb (entry_here t p l).level 0 d)

-- the variable of a lower literal
pub below_within : (t : TrailState) (l : Signed) → IsTrail t → IsBelow t l → l.variable ≤ t.variables
below_within t l trail b =
    let most = (All-entry_of (IsInRange t.variables) t.entries l.variable b.by trail.in_range b.entry).most in
    let v : b.by.literal.variable ≡ l.variable = ap (λ (x : Signed). x.variable) b.opposite in
    omega (arith, v, most)

-- entries before one of level 0 are of level 0
root_before : (t : TrailState) (p : ℕ) (d : Entry) → IsTrail t → p < length t.entries → (get_or t.entries p d).level ≡ 0 → All (λ e. e.level ≡ 0) (take p t.entries)
root_before t p d trail lt root = λ j x within.
    let short : j < p = omega (arith, length-take p t.entries) in
    let at : get_or (take p t.entries) j x ≡ get_or t.entries j x = get_or-take p t.entries j x short in
    let level_j : (get_or t.entries j x).level ≡ decided_count (take (j + 1) t.entries) = level_at t.clauses t.entries trail.follows j x (omega arith) in
    let level_p : (get_or t.entries p d).level ≡ decided_count (take (p + 1) t.entries) = level_at t.clauses t.entries trail.follows p d lt in
    let front : decided_count (take (j + 1) (take (p + 1) t.entries)) ≤ decided_count (take (p + 1) t.entries) = sum_by-take-le is_decided (take (p + 1) t.entries) (j + 1) in
    let same : take (j + 1) (take (p + 1) t.entries) ≡ take (j + 1) t.entries = take-take (j + 1) (p + 1) t.entries (omega arith) in
    let count_same : decided_count (take (j + 1) (take (p + 1) t.entries)) ≡ decided_count (take (j + 1) t.entries) = ap decided_count same in
    rw at (omega arith)

-- an entry of level 0 was forced
pub root_is_forced : (t : TrailState) (p : ℕ) (d : Entry) → IsTrail t → p < length t.entries → (get_or t.entries p d).level ≡ 0 → (get_or t.entries p d).reason ≢ None
root_is_forced t p d trail lt root none =
    let decided : is_decided (get_or t.entries p d) ≡ 1 = ap (λ o. cond (is_none o) 1 0) none in
    let whole : decided_count (take (p + 1) t.entries) ≡ decided_count (take p t.entries) + is_decided (get_or t.entries p d) = sum_by_more is_decided t.entries p d lt in
    let level : (get_or t.entries p d).level ≡ decided_count (take (p + 1) t.entries) = level_at t.clauses t.entries trail.follows p d lt in
    omega arith

-- an open entry of level 0 is traced back by the clause that forced it
pub RootLeads-resolve : (t : TrailState) (p : ℕ) (seen next : List Bool) (clause : List Signed) (hints : List ℕ) (k : ℕ) (l : Signed) → IsTrail t → Here t p l → (entry_here t p l).level ≡ 0 → k < length t.clauses →
    Forces (clause_at t k) (take p t.entries) l → ((i : ℕ) → get_or seen i false ≡ true → get_or next i false ≡ true) → All (λ n. is_marked_variable next n.variable ≡ true) (clause_at t k) →
    RootLeads t (p + 1) seen clause hints → RootLeads t p next clause (hints ++ k ∷ [])
RootLeads-resolve t p seen next clause hints k l trail here root lt forces more marked h = λ j f r.
    let others : All (λ n. (n ≡ l) ⊎ FailsIn j n) (clause_at t k) = λ i x within. elim (forces.others i x within) [
      | inl e ↦ inl e
      | inr g ↦
          let n : Signed = get_or (clause_at t k) i x in
          let found : Failing t p n = failing t p n trail g in
          let v : found.by.literal.variable ≡ n.variable = ap (λ (y : Signed). y.variable) found.literal in
          let low : found.by.level ≡ 0 = All-entry_of (λ e. e.level ≡ 0) (take p t.entries) n.variable found.by (root_before t p (stand_in l) trail here.within root) found.front in
          let opens : is_open_entry next 0 found.by ≡ true = and_from (is_marked_variable next found.by.literal.variable) (eqb found.by.level 0) (rw v (marked i x within)) (eq-eqb found.by.level 0 low) in
          let holds : HoldsIn j found.by.literal = All-entry_of (λ e. is_open_entry next 0 e ≡ true → HoldsIn j e.literal) (take p t.entries) n.variable found.by r found.front opens in
          inr (subst (λ (y : Signed). HoldsIn j y) found.literal holds)
    ] in
    rw (reverse-append hints (k ∷ []))
    (leads_by t.clauses j k (reverse hints) l lt forces.member others
    (λ i x holds. h i (All-weaker (FailsIn j) (FailsIn i) (λ n g. x.keeps n.variable (not n.positive) g) clause f)
    (All-more (λ e. is_open_entry seen 0 e ≡ true → HoldsIn i e.literal) t.entries p (stand_in l) here.within (RootHolds-extends j i t p seen (RootHolds-more j t p seen next more r) x) (λ o. subst (λ (y : Signed). HoldsIn i y) (sym here.literal) holds))))

-- the opposites of literals that all fail under one assignment make these false
opposites_fail : (f : List Signed) (clause : List Signed) → All (λ n. HoldsIn f (opposite_lit n)) clause → AllFail (map opposite_lit clause) clause
opposites_fail f clause h = λ i x within.
    let n : Signed = get_or clause i x in
    holds_among f (map opposite_lit clause) (opposite_lit n) (All-map (HoldsIn f) opposite_lit clause h) (h i x within) (contains_opposite clause n (Contains-get_or clause i x within))

-- the literal of the current level is the last
last_is_top : (t : TrailState) (lower : List Signed) (u : Signed) (hints : List ℕ) (h : IsAsserting t (lower ++ u ∷ []) hints) → All (IsBelow t) lower → h.u ≡ u
last_is_top t lower u hints h below =
    elim (All-contains (λ n. (n ≡ u) ⊎ IsBelow t n) (lower ++ u ∷ []) h.u (All-push (λ n. (n ≡ u) ⊎ IsBelow t n) lower u (All-weaker (IsBelow t) (λ n. (n ≡ u) ⊎ IsBelow t n) (λ n b. inr b) lower below) (inl refl)) h.member) [
      | inl same ↦ same
      | inr low ↦ absurd (let is : low.by ≡ h.top = (let p = low.entry in let q = h.entry in cc) in let at : low.by.level ≡ h.top.level = ap (λ (x : Entry). x.level) is in omega (arith, low.below, h.at_top))
    ]

-- what is kept is asserting, once the rest is traced back
pub IsAsserting-kept : (t : TrailState) (lower kept : List Signed) (u : Signed) (hints more : List ℕ) (seen next : List Bool) → IsAsserting t (lower ++ u ∷ []) (reverse hints) → All (IsBelow t) lower → All (IsBelow t) kept →
    ((k : List Signed) → AllFail k kept → RootHolds k t (length t.entries) seen → AllFail k lower) →
    ((clause : List Signed) → RootLeads t (length t.entries) seen clause hints → RootLeads t 0 next clause more) → IsAsserting t (kept ++ u ∷ []) (reverse more)
IsAsserting-kept t lower kept u hints more seen next h below_lower below fails leads =
    let clause : List Signed = kept ++ u ∷ [] in
    let same : h.u ≡ u = last_is_top t lower u (reverse hints) h below_lower in
    let start : RootLeads t (length t.entries) seen clause hints = λ k f r.
    h.leads k (All-push (FailsIn k) lower u (fails k (All-append_left (FailsIn k) kept (u ∷ []) f) r) (All-at_end (FailsIn k) kept u f)) in
    let all : RootLeads t 0 next clause more = leads clause start in
    let sign : h.top.literal.positive ≡ not u.positive = ap (λ (x : Signed). x.positive) (h.fails ∙ ap opposite_lit same) in
    let entry : entry_of t.entries u.variable ≡ Some h.top = subst (λ (x : Signed). entry_of t.entries x.variable ≡ Some h.top) same h.entry in
    let top : HoldsIn (known t) (opposite_lit u) = value_from_entry t.entries u.variable h.top entry ∙ ap (λ (b : Bool). Some b) sign in
    let lower_hold : All (λ n. HoldsIn (known t) (opposite_lit n)) kept = All-weaker (IsBelow t) (λ n. HoldsIn (known t) (opposite_lit n)) (λ n b. below_holds t n b) kept below in
    record {
      follows = all (map opposite_lit clause) (opposites_fail (known t) clause (All-push (λ n. HoldsIn (known t) (opposite_lit n)) kept u lower_hold top)) (All-nil (λ e. is_open_entry next 0 e ≡ true → HoldsIn (map opposite_lit clause) e.literal));
      u = u;
      member = Contains-push kept u;
      top = h.top;
      entry = entry;
      fails = h.fails ∙ ap opposite_lit same;
      at_top = h.at_top;
      others = All-push (λ n. (n ≡ u) ⊎ IsBelow t n) kept u (All-weaker (IsBelow t) (λ n. (n ≡ u) ⊎ IsBelow t n) (λ n b. inr b) kept below) (inl refl);
      leads = λ k f. all k f (All-nil (λ e. is_open_entry next 0 e ≡ true → HoldsIn k e.literal));
    }
