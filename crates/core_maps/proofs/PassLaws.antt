-- The axioms each clause of which is true under the bits of a rule.
use mathlib.Core.Bool.{and-true}
use Rattle.std.proofs.Common.{◌≡◌, refl, sym, ◌∙◌, ap, subst, ℕ, ◌<◌, Bool, true, false, not, ◌&&◌, ◌||◌, inl, inr, cond, List, [], ◌∷◌, filter, length, Some, eqb-true, eq-eqb, true≢false, ltb-true, ap₂, zero, suc, ◌+◌, take, get_or}
use Rattle.std.specs.Prelude.{◌==◌, nat_lt, slice_get, slice_index_or}
use Rattle.std.specs.List.{list_all}
use Rattle.std.proofs.lemmas.Bool.{and_parts, and_from, or_cases, or_left, or_right, not-true, both_ways, false_from_ne_true}
use Rattle.vocab.specs.Study.{Question, is_sentence}
use Rattle.cnf.specs.Sat.{is_clause_true, is_satisfied, Clause}
use Rattle.meaning.specs.declared.clauses.Origin.{Origin}
use Rattle.meaning.specs.declared.clauses.Origin.TheVariants.{Frame, Instance}
use Rattle.meaning.specs.Space.{below}
use Rattle.meaning.specs.StudyClauses.{Sourced, study_clauses, clauses_for}
use Rattle.meaning.proofs.RuleLaws.{are_satisfiable}
use Rattle.meaning.proofs.CoreLaws.{core_in_range}
use Rattle.clause_form.specs.Cited.{is_of_axiom}
use Rattle.clause_form.specs.Sources.{clauses_in, is_of, is_left, origins_in}
use Rattle.clause_form.proofs.RestLaws.{rest_is_ground}
use Rattle.search_logs.specs.Spent.{has_place, all_places}
use Rattle.search_logs.proofs.PlaceLaws.{core_below, each_member, member_passes}
use Rattle.axiom_sets.specs.Sets.{is_set}
use Rattle.core_reduce.proofs.CoreLaws.{core-filter}
use Rattle.core_maps.specs.Asking.{is_whole_true, IsWider}
use Rattle.core_maps.proofs.SetLaws.{filter_set, in_below, in_filter, same_below}
use Rattle.std.proofs.lemmas.List.Folds.{list_all_more}
use Rattle.core_reduce.proofs.PartLaws.{no_source, origin-at}

module _ (v : ℕ → Bool) where
  -- each clause that is left is true
  left_true : (p : Sourced → Bool) (ss : List Sourced) → is_satisfied v (clauses_in (filter p ss)) ≡ true → list_all (λ s. is_clause_true v s.clause || not (p s)) ss ≡ true
  left_true p [] h = refl
  left_true p (s ∷ ss) h = cases (p s) h (left_true p ss)
    where
      cases : (b : Bool) → is_satisfied v (clauses_in (cond b (s ∷ filter p ss) (filter p ss))) ≡ true
          → (is_satisfied v (clauses_in (filter p ss)) ≡ true → list_all (λ t. is_clause_true v t.clause || not (p t)) ss ≡ true)
          → ((is_clause_true v s.clause || not b) && list_all (λ t. is_clause_true v t.clause || not (p t)) ss) ≡ true
      cases true h ih = let e = and_parts (is_clause_true v s.clause) (is_satisfied v (clauses_in (filter p ss))) h in and_from _ _ (or_left _ _ e.0) (ih e.1)
      cases false h ih = and_from _ _ (or_right (is_clause_true v s.clause) true refl) (ih h)

  -- so are fewer
  fewer_true : (p q : Sourced → Bool) → ((s : Sourced) → q s ≡ true → p s ≡ true) → (ss : List Sourced) → list_all (λ s. is_clause_true v s.clause || not (p s)) ss ≡ true
      → list_all (λ s. is_clause_true v s.clause || not (q s)) ss ≡ true
  fewer_true p q f [] h = refl
  fewer_true p q f (s ∷ ss) h =
      let e = and_parts (is_clause_true v s.clause || not (p s)) (list_all (λ t. is_clause_true v t.clause || not (p t)) ss) h in
      and_from (is_clause_true v s.clause || not (q s)) (list_all (λ t. is_clause_true v t.clause || not (q t)) ss)
      (elim (or_cases (is_clause_true v s.clause) (not (p s)) e.0) [
        | inl t ↦ or_left _ _ t
        | inr n ↦ or_right (is_clause_true v s.clause) (not (q s)) (ap not (false_from_ne_true (q s) (λ y. both_ways (p s) (not-true (p s) n) (f s y))))
      ]) (fewer_true p q f ss e.1)

  of_set : (set : List ℕ) (c : ℕ) → has_place set c ≡ true → (o : Origin) → is_of_axiom c (Some o) ≡ true → is_of (has_place set) o ≡ true
  of_set set c m (Frame p) h = refl
  of_set set c m (Instance b k) h = subst (λ (x : ℕ). has_place set x ≡ true) (sym (eqb-true b c h)) m

  of_frame : (set : List ℕ) (o : Origin) → is_of (λ a. false) o ≡ true → is_of (has_place set) o ≡ true
  of_frame set (Frame p) h = refl
  of_frame set (Instance b k) h = absurd (true≢false (sym h))

  -- frames, and axioms each of whose clauses is true, are satisfied
  true_at : (keep : ℕ → Bool) (t : Bool) (o : Origin) → is_of keep o ≡ true → (t || not (is_of (λ a. false) o)) ≡ true → ((a : ℕ) → keep a ≡ true → (t || not (is_of_axiom a (Some o))) ≡ true) → t ≡ true
  true_at keep t (Frame p) k f w = elim (or_cases t false f) [ inl e ↦ e | inr e ↦ absurd (true≢false (sym e)) ]
  true_at keep t (Instance a j) k f w = elim (or_cases t (not (a == a)) (w a k)) [ inl e ↦ e | inr e ↦ absurd (both_ways (a == a) (not-true (a == a) e) (eq-eqb a a refl)) ]

  kept_true : (keep : ℕ → Bool) (ss : List Sourced) → list_all (λ s. is_clause_true v s.clause || not (is_left (λ a. false) s)) ss ≡ true → ((a : ℕ) → keep a ≡ true → is_whole_true v ss a ≡ true)
      → is_satisfied v (clauses_in (filter (is_left keep) ss)) ≡ true
  kept_true keep [] f w = refl
  kept_true keep (s ∷ ss) f w =
      let e = and_parts (is_clause_true v s.clause || not (is_left (λ a. false) s)) (list_all (λ t. is_clause_true v t.clause || not (is_left (λ a. false) t)) ss) f in
      cases (is_left keep s)
      (λ k. true_at keep (is_clause_true v s.clause) s.origin k e.0 (λ a y. (and_parts (is_clause_true v s.clause || not (is_of_axiom a (Some s.origin))) (is_whole_true v ss a) (w a y)).0))
      (kept_true keep ss e.1 (λ a y. (and_parts (is_clause_true v s.clause || not (is_of_axiom a (Some s.origin))) (is_whole_true v ss a) (w a y)).1))
    where
      cases : (b : Bool) → (b ≡ true → is_clause_true v s.clause ≡ true) → is_satisfied v (clauses_in (filter (is_left keep) ss)) ≡ true
          → is_satisfied v (clauses_in (cond b (s ∷ filter (is_left keep) ss) (filter (is_left keep) ss))) ≡ true
      cases true t ih = and_from _ _ (t refl) ih
      cases false t ih = ih

module _ (study : Question) (sentences : list_all (is_sentence study.size) study.axioms ≡ true) (set : List ℕ) (is : is_set (length study.axioms) set ≡ true) (v : ℕ → Bool)
    (sat : is_satisfied v (clauses_for study.size study.axioms set) ≡ true) where
  -- the clauses of the set are true
  set_true : list_all (λ s. is_clause_true v s.clause || not (is_left (has_place set) s)) (study_clauses study.size study.axioms (all_places study)) ≡ true
  set_true =
      let n : ℕ = length study.axioms in
      let part : filter (is_left (has_place set)) (study_clauses study.size study.axioms (below n)) ≡ study_clauses study.size study.axioms set =
      rest_is_ground study.size study.axioms (has_place set) (below n) ∙ ap (study_clauses study.size study.axioms) (filter_set (has_place set) n set is (λ a lt. refl)) in
      left_true v (is_left (has_place set)) (study_clauses study.size study.axioms (below n)) (subst (λ (ss : List Sourced). is_satisfied v (clauses_in ss) ≡ true) (sym part) sat)

  whole_is_wider : IsWider study set (filter (is_whole_true v (study_clauses study.size study.axioms (all_places study))) (all_places study))
  whole_is_wider =
      let n : ℕ = length study.axioms in
      let whole : ℕ → Bool = is_whole_true v (study_clauses study.size study.axioms (below n)) in
      let all : List ℕ = filter whole (below n) in
      let range = core_in_range 0 n set is in
      let all_set : is_set n all ≡ true = core-filter whole 0 n (below n) (core_below n) in
      let satisfied : is_satisfied v (clauses_for study.size study.axioms all) ≡ true =
      subst (λ (ss : List Sourced). is_satisfied v (clauses_in ss) ≡ true) (rest_is_ground study.size study.axioms whole (below n))
      (kept_true v whole (study_clauses study.size study.axioms (below n))
      (fewer_true v (is_left (has_place set)) (is_left (λ a. false)) (λ s. of_frame v set s.origin) (study_clauses study.size study.axioms (below n)) set_true)
      (λ a k. k)) in (
        all_set,
        each_member (has_place all) set (λ c m.
            in_filter whole (below n) c
            (fewer_true v (is_left (has_place set)) (λ s. is_of_axiom c (Some s.origin)) (λ s. of_set v set c m s.origin) (study_clauses study.size study.axioms (below n)) set_true)
            (in_below n c (ltb-true c n (member_passes (λ k. nat_lt k n) set c range m)))),
        (are_satisfiable study.size study.axioms sentences all (core_in_range 0 n all all_set)).0 (v, satisfied),
      )

  -- the axioms that pass are satisfied by a rule, and those of the set are among them
  pub passed_is_wider : (keep : ℕ → Bool) → ((a : ℕ) → a < length study.axioms → keep a ≡ is_whole_true v (study_clauses study.size study.axioms (all_places study)) a)
      → IsWider study set (filter keep (all_places study))
  passed_is_wider keep same =
      subst (IsWider study set) (sym (same_below keep (is_whole_true v (study_clauses study.size study.axioms (all_places study))) (length study.axioms) same)) whole_is_wider

-- ---- one clause more

clause-at : (ss : List Sourced) (k : ℕ) → (get_or ss k no_source).clause ≡ slice_index_or (clauses_in ss) k []
clause-at [] k = refl
clause-at (s ∷ ss) zero = refl
clause-at (s ∷ ss) (suc k) = clause-at ss k

module _ (v : ℕ → Bool) (sources : List Sourced) (k : ℕ) (lt : k < length sources) (clause : Clause) (same : slice_index_or (clauses_in sources) k [] ≡ clause) (a : ℕ) where
  -- one clause more, which is true
  pub still_true : is_clause_true v clause ≡ true → is_whole_true v (take (k + 1) sources) a ≡ is_whole_true v (take k sources) a
  still_true t =
      list_all_more (λ s. is_clause_true v s.clause || not (is_of_axiom a (Some s.origin))) sources k no_source lt
      ∙ ap (λ (b : Bool). is_whole_true v (take k sources) a && b) (or_left _ _ (ap (is_clause_true v) (clause-at sources k ∙ same) ∙ t))
      ∙ and-true (is_whole_true v (take k sources) a)

  -- one clause more, which is false
  pub now_false : is_clause_true v clause ≡ false → (o : Origin) → slice_get (origins_in sources) k ≡ Some o →
      is_whole_true v (take (k + 1) sources) a ≡ (is_whole_true v (take k sources) a && not (is_of_axiom a (Some o)))
  now_false f o e =
      list_all_more (λ s. is_clause_true v s.clause || not (is_of_axiom a (Some s.origin))) sources k no_source lt
      ∙ ap (λ (b : Bool). is_whole_true v (take k sources) a && b)
      (ap₂ (λ (x y : Bool). x || y) (ap (is_clause_true v) (clause-at sources k ∙ same) ∙ f) (ap (λ (x : Origin). not (is_of_axiom a (Some x))) (origin-at sources k o lt e)))
