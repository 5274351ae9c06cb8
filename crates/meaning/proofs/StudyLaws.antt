-- An assignment satisfies the clauses of a study exactly where it satisfies the frames and makes each instance of the chosen axioms true.
use Rattle.std.proofs.Common.{◌&&◌, ◌<◌, Bool, List, None, Option, Some, ap, ap₂, arith, cond, false, filter, inl, inr, map, not, refl, sym, true, true≢false, ℕ, ◌∙◌, ◌∷◌, ◌≡◌, ◌||◌, []}
use Rattle.std.proofs.lemmas.Bool.{and_from, and_parts, or_cases}
use Rattle.std.proofs.lemmas.List.Folds.{list_all-append, list_all-map}
use Rattle.std.specs.Cmp.Lexicographic.{pointwise}
use Rattle.std.specs.List.{flat_map, list_all, list_any}
use Rattle.std.specs.Prelude.{nat_lt, slice_get}
use Rattle.vocab.specs.Limits.{instance_count}
use Rattle.vocab.specs.Literal.{opposite_of}
use Rattle.vocab.specs.Size.{Extent, sort_count}
use Rattle.vocab.specs.Sorted.{is_sorted}
use Rattle.vocab.specs.Study.{is_sentence}
use Rattle.vocab.specs.Titled.{Titled}
use Rattle.vocab.specs.Tree.{Tree}
use Rattle.vocab.specs.declared.kinds.Kind.{Kind}
use Rattle.vocab.specs.declared.kinds.Sort.TheVariants.{Profile}
use Rattle.vocab.specs.declared.literals.Literal.{Literal}
use Rattle.cnf.proofs.LitLaws.{same_lit-equal}
use Rattle.cnf.proofs.SoundLaws.{opposite_true, tautology_true}
use Rattle.cnf.specs.Sat.{Clause, is_clause_true, is_lit_true, is_satisfied, is_tautology, same_lit}
use Rattle.cnf.specs.Signed.{Signed}
use Rattle.meaning.specs.Clauses.{Disjunction, plus}
use Rattle.meaning.specs.Laws.{AllFacts, IsProper, are_instances_true, is_frame_true, literal_under}
use Rattle.meaning.specs.Literals.{is_literal, is_literal_of}
use Rattle.meaning.specs.Space.{below}
use Rattle.meaning.specs.declared.clauses.Origin.TheVariants.{Frame, Instance}
use Rattle.meaning.specs.StudyClauses.{Sourced, clauses_of, firsts, frame_of, from_axiom, from_frame, from_instance, instance_of, sorted, sorted_in, study_clauses, clauses_for}
use Rattle.meaning.specs.Variables.{lit_of}
use Rattle.meaning.specs.Written.{And, Fact, Iff, Known, Neg, Or, Written, evaluate}
use Rattle.meaning.proofs.ClauseLaws.{clauses_true}
use Rattle.meaning.proofs.SentenceLaws.{IfSorted, sorted_at, instance_literals}
use Rattle.meaning.proofs.TestLaws.{all-agree, list_all-ext, list_all-flat_map, list_any-map, or_swap}
use Rattle.meaning.proofs.VariableLaws.{lit_of-opposite}

-- what holds of each literal of a formula may be weakened
pub AllFacts-map : (P Q : Literal → Type 0) (w : Written) → ((l : Literal) → P l → Q l) → AllFacts P w → AllFacts Q w
AllFacts-map P Q (Known b) f h = tt
AllFacts-map P Q (Fact l) f h = f l h
AllFacts-map P Q (Neg a) f h = AllFacts-map P Q a f h
AllFacts-map P Q (And a b) f h = (AllFacts-map P Q a f h.0, AllFacts-map P Q b f h.1)
AllFacts-map P Q (Or a b) f h = (AllFacts-map P Q a f h.0, AllFacts-map P Q b f h.1)
AllFacts-map P Q (Iff a b) f h = (AllFacts-map P Q a f h.0, AllFacts-map P Q b f h.1)

or_twice : (a b c : Bool) → a ≡ b → (b || c) ≡ (a || (b || c))
or_twice true b c e = ap (λ x. x || c) (sym e)
or_twice false b c e = refl

module _ (v : ℕ → Bool) where
  -- ---- one clause

  true-sorted_in : (l : Signed) (c : Clause) → is_clause_true v (sorted_in l c) ≡ (is_lit_true v l || is_clause_true v c)
  true-sorted_in l [] = refl
  true-sorted_in l (k ∷ ks) = cases (nat_lt l.variable k.variable) (same_lit l k) refl (true-sorted_in l ks)
    where
      cases : (a b : Bool) → same_lit l k ≡ b → is_clause_true v (sorted_in l ks) ≡ (is_lit_true v l || is_clause_true v ks) → is_clause_true v (cond a (l ∷ k ∷ ks) (cond b (k ∷ ks) (k ∷ sorted_in l ks))) ≡ (is_lit_true v l || (is_lit_true v k || is_clause_true v ks))
      cases true b e ih = refl
      cases false true e ih = or_twice (is_lit_true v l) (is_lit_true v k) (is_clause_true v ks) (ap (is_lit_true v) (same_lit-equal l k e))
      cases false false e ih = ap (λ b. is_lit_true v k || b) ih ∙ or_swap (is_lit_true v k) (is_lit_true v l) (is_clause_true v ks)

  true-sorted : (ls : List Signed) → is_clause_true v (sorted ls) ≡ is_clause_true v ls
  true-sorted [] = refl
  true-sorted (l ∷ ls) = true-sorted_in l (sorted ls) ∙ ap (λ b. is_lit_true v l || b) (true-sorted ls)

  -- ---- clauses that are left out

  true-filter : (cs : List Clause) → is_satisfied v (filter (λ c. not (is_tautology c)) cs) ≡ is_satisfied v cs
  true-filter [] = refl
  true-filter (c ∷ cs) = cases (is_tautology c) refl (true-filter cs)
    where
      cases : (b : Bool) → is_tautology c ≡ b → is_satisfied v (filter (λ d. not (is_tautology d)) cs) ≡ is_satisfied v cs → is_satisfied v (cond (not b) (c ∷ filter (λ d. not (is_tautology d)) cs) (filter (λ d. not (is_tautology d)) cs)) ≡ (is_clause_true v c && is_satisfied v cs)
      cases true e ih = ih ∙ ap (λ b. b && is_satisfied v cs) (sym (tautology_true v c c (λ l h. h) e))
      cases false e ih = ap (λ b. is_clause_true v c && b) ih

  same_clause : (c d : Clause) → pointwise same_lit c d ≡ true → is_clause_true v c ≡ is_clause_true v d
  same_clause [] [] h = refl
  same_clause [] (l ∷ d) h = absurd (true≢false (sym h))
  same_clause (l ∷ c) [] h = absurd (true≢false (sym h))
  same_clause (l ∷ c) (k ∷ d) h =
      let e = and_parts (same_lit l k) (pointwise same_lit c d) h in ap₂ (λ a b. a || b) (ap (is_lit_true v) (same_lit-equal l k e.0)) (same_clause c d e.1)

  seen_true : (c : Clause) (seen : List Clause) → list_any (pointwise same_lit c) seen ≡ true → is_satisfied v seen ≡ true → is_clause_true v c ≡ true
  seen_true c [] h all = absurd (true≢false (sym h))
  seen_true c (d ∷ seen) h all =
      let e = and_parts (is_clause_true v d) (is_satisfied v seen) all in
      elim (or_cases (pointwise same_lit c d) (list_any (pointwise same_lit c) seen) h) [ inl f ↦ same_clause c d f ∙ e.0 | inr f ↦ seen_true c seen f e.1 ]

  -- what is true of the clauses that were seen makes the repeated ones true
  true-firsts : (seen : List Clause) (ss : List Sourced) → is_satisfied v seen ≡ true → list_all (λ (s : Sourced). is_clause_true v s.clause) (firsts seen ss) ≡ list_all (λ (s : Sourced). is_clause_true v s.clause) ss
  true-firsts seen [] h = refl
  true-firsts seen (s ∷ ss) h = cases (list_any (pointwise same_lit s.clause) seen) refl (true-firsts seen ss h) (λ t. true-firsts (s.clause ∷ seen) ss (and_from _ _ t h))
    where
      here : (b : Bool) → is_clause_true v s.clause ≡ b → (is_clause_true v s.clause ≡ true → list_all (λ (x : Sourced). is_clause_true v x.clause) (firsts (s.clause ∷ seen) ss) ≡ list_all (λ (x : Sourced). is_clause_true v x.clause) ss) → (b && list_all (λ (x : Sourced). is_clause_true v x.clause) (firsts (s.clause ∷ seen) ss)) ≡ (b && list_all (λ (x : Sourced). is_clause_true v x.clause) ss)
      here true e ih = ih e
      here false e ih = refl

      cases : (b : Bool) → list_any (pointwise same_lit s.clause) seen ≡ b → list_all (λ (x : Sourced). is_clause_true v x.clause) (firsts seen ss) ≡ list_all (λ (x : Sourced). is_clause_true v x.clause) ss → (is_clause_true v s.clause ≡ true → list_all (λ (x : Sourced). is_clause_true v x.clause) (firsts (s.clause ∷ seen) ss) ≡ list_all (λ (x : Sourced). is_clause_true v x.clause) ss) → list_all (λ (x : Sourced). is_clause_true v x.clause) (cond b (firsts seen ss) (s ∷ firsts (s.clause ∷ seen) ss)) ≡ (is_clause_true v s.clause && list_all (λ (x : Sourced). is_clause_true v x.clause) ss)
      cases true e skip keep = skip ∙ ap (λ b. b && list_all (λ (x : Sourced). is_clause_true v x.clause) ss) (sym (seen_true s.clause seen e h))
      cases false e skip keep = here (is_clause_true v s.clause) refl keep

module _ (size : Extent) (v : ℕ → Bool) where
  true-row : (row : List Literal) → is_clause_true v (sorted (map (lit_of size) row)) ≡ list_any (literal_under size v) row
  true-row row = true-sorted v (map (lit_of size) row) ∙ list_any-map (is_lit_true v) (lit_of size) row

  pub true-clauses_of : (rows : List Disjunction) → is_satisfied v (clauses_of size rows) ≡ list_all (list_any (literal_under size v)) rows
  true-clauses_of rows =
      true-filter v (map (λ row. sorted (map (lit_of size) row)) rows)
      ∙ list_all-map (is_clause_true v) (λ row. sorted (map (lit_of size) row)) rows
      ∙ list_all-ext _ _ rows true-row

  pub literal_under-opposite : (k : Kind) (l : Literal) → is_literal_of size k l ≡ true → literal_under size v (opposite_of l) ≡ not (literal_under size v l)
  literal_under-opposite k l h = ap (is_lit_true v) (lit_of-opposite size k l h) ∙ opposite_true v (lit_of size l)

  proper : (w : Written) → AllFacts (λ l. is_literal size l ≡ true) w → IsProper (literal_under size v) w
  proper w h = AllFacts-map _ _ w (literal_under-opposite size.kind) h

  true-instance : (sentence : Tree) → is_sorted size [] sentence ≡ true → (k : ℕ) → k < instance_count size sentence → is_satisfied v (clauses_of size (plus (instance_of size sentence k))) ≡ evaluate (literal_under size v) (instance_of size sentence k)
  true-instance sentence h k lt =
      let facts = instance_literals size sentence h k lt in
      true-clauses_of (plus (instance_of size sentence k)) ∙ (clauses_true (literal_under size v) (instance_of size sentence k) (proper (instance_of size sentence k) facts)).0

  true-axiom : (a : ℕ) (o : Option Titled) → IfSorted size o → list_all (λ (s : Sourced). is_clause_true v s.clause) (from_axiom size a o) ≡ are_instances_true size v o
  true-axiom a None h = refl
  true-axiom a (Some x) h =
      true-firsts v [] (flat_map (from_instance size a x.sentence) (below (instance_count size x.sentence))) refl
      ∙ list_all-flat_map (λ (s : Sourced). is_clause_true v s.clause) (from_instance size a x.sentence) (below (instance_count size x.sentence))
      ∙ all-agree _ _ (instance_count size x.sentence) 0 (λ k lt.
      list_all-map (λ (s : Sourced). is_clause_true v s.clause) (λ (c : Clause). record { clause = c; origin = Instance a k }) (clauses_of size (plus (instance_of size x.sentence k)))
      ∙ true-instance x.sentence h k (omega arith))

  true-frames : list_all (λ (s : Sourced). is_clause_true v s.clause) (flat_map (from_frame size) (below (sort_count size Profile))) ≡ is_frame_true size v
  true-frames =
      list_all-flat_map (λ (s : Sourced). is_clause_true v s.clause) (from_frame size) (below (sort_count size Profile))
      ∙ list_all-ext _ _ (below (sort_count size Profile)) (λ p.
      list_all-map (λ (s : Sourced). is_clause_true v s.clause) (λ (c : Clause). record { clause = c; origin = Frame p }) (clauses_of size (frame_of size size.kind p))
      ∙ true-clauses_of (frame_of size size.kind p))

  true-study : (axioms : List Titled) → list_all (is_sentence size) axioms ≡ true → (chosen : List ℕ) → is_satisfied v (clauses_for size axioms chosen) ≡ (is_frame_true size v && list_all (λ k. are_instances_true size v (slice_get axioms k)) chosen)
  true-study axioms h chosen =
      list_all-map (is_clause_true v) (λ (s : Sourced). s.clause) (study_clauses size axioms chosen)
      ∙ list_all-append (λ (s : Sourced). is_clause_true v s.clause) (flat_map (from_frame size) (below (sort_count size Profile))) (flat_map (λ a. from_axiom size a (slice_get axioms a)) chosen)
      ∙ ap₂ (λ a b. a && b) true-frames
      (list_all-flat_map (λ (s : Sourced). is_clause_true v s.clause) (λ a. from_axiom size a (slice_get axioms a)) chosen
      ∙ list_all-ext _ _ chosen (λ a. true-axiom a (slice_get axioms a) (sorted_at size axioms a h)))

pub satisfy_study : (size : Extent) → (axioms : List Titled) → list_all (is_sentence size) axioms ≡ true → (chosen : List ℕ) (v : ℕ → Bool) →
    is_satisfied v (clauses_for size axioms chosen) ≡ (is_frame_true size v && list_all (λ k. are_instances_true size v (slice_get axioms k)) chosen)
satisfy_study size axioms h chosen v = true-study size v axioms h chosen
