-- Where known literals falsify a clause of a study, its origin is a reason that refutes them.
use Rattle.std.proofs.Common.{◌&&◌, ◌++◌, ◌<◌, Bool, List, None, Option, Some, ap, ap₂, arith, cond, eq-eqb, eqb-true, false, filter, inl, inr, le-ltb, ltb-true, map, not, refl, subst, sym, true, true≢false, ℕ, ◌∙◌, ◌∷◌, ◌≡◌, ◌⊎◌, ◌||◌, []}
use Rattle.std.proofs.lemmas.Bool.{and_from, and_parts, both_ways, false_from_ne_true, not-true, or_cases, or_left, or_right}
use Rattle.std.proofs.lemmas.List.Folds.{list_all-map}
use Rattle.std.specs.Cmp.Lexicographic.{pointwise}
use Rattle.std.specs.List.{AllByRecursion, flat_map, list_all, list_any}
use Rattle.std.specs.Prelude.{◌==◌, IsTrue, nat_lt, slice_get}
use Rattle.vocab.specs.Limits.{bases_of, instance_count}
use Rattle.vocab.specs.Literal.{has, opposite_of, profile_of, same_literal}
use Rattle.vocab.specs.Size.{Extent, outcome_count, sort_count}
use Rattle.vocab.specs.Sorted.{is_sorted}
use Rattle.vocab.specs.Study.{is_sentence}
use Rattle.vocab.specs.Titled.{Titled}
use Rattle.vocab.specs.declared.kinds.Kind.{Kind}
use Rattle.vocab.specs.declared.kinds.Kind.TheVariants.{Choice, Ranking, Sets}
use Rattle.vocab.specs.declared.kinds.Sort.TheVariants.{Profile}
use Rattle.vocab.specs.declared.literals.Literal.{Literal}
use Rattle.vocab.specs.declared.literals.Literal.TheVariants.{Above, Loses, Wins}
use Rattle.cnf.proofs.LitLaws.{same_lit-equal}
use Rattle.cnf.specs.Sat.{Clause, has_lit, is_falsified, is_tautology, opposite_lit, same_lit}
use Rattle.cnf.specs.Signed.{Signed}
use Rattle.meaning.specs.Clauses.{Disjunction, for_falsity, for_truth, joined, minus, plus}
use Rattle.meaning.specs.Instances.{instance_values}
use Rattle.meaning.specs.Laws.{AllFacts, HasNoPair, IfAxiom, RefuteOrigin, some_false}
use Rattle.meaning.specs.Literals.{is_literal, is_literal_of}
use Rattle.meaning.specs.Space.{below, digits_of}
use Rattle.meaning.specs.Stories.{are_false, is_false, is_instance_false, is_outcome_excluded}
use Rattle.meaning.specs.declared.clauses.Origin.{Origin}
use Rattle.meaning.specs.declared.clauses.Origin.TheVariants.{Frame, Instance}
use Rattle.meaning.specs.StudyClauses.{no_circle, not_both, some_winner, Sourced, clauses_of, firsts, frame_of, from_axiom, from_frame, from_instance, instance_of, sorted, sorted_in, study_clauses}
use Rattle.meaning.specs.Truth.{holds_of}
use Rattle.meaning.specs.Variables.{lit_of, pairs, triples}
use Rattle.meaning.specs.Written.{And, Fact, Iff, Known, Neg, Or, Written}
use Rattle.meaning.specs.declared.three.Three.{Three}
use Rattle.meaning.specs.declared.three.Three.TheVariants.{False, True, Unknown}
use Rattle.meaning.proofs.ClauseLaws.{clauses_decide}
use Rattle.meaning.proofs.DigitLaws.{are_one_to_one}
use Rattle.meaning.proofs.FrameLaws.{is_frame}
use Rattle.meaning.proofs.LiteralLaws.{winner_literal, is_literal-opposite, profile_of-opposite, ranking_literal, same_literal-equal, unequal}
use Rattle.meaning.proofs.PairLaws.{pairs-from, triples-from}
use Rattle.meaning.proofs.RankingLaws.{All-append, All-flat_map}
use Rattle.meaning.proofs.SpaceLaws.{all_from, any_at}
use Rattle.meaning.proofs.SentenceLaws.{IfSorted, instance_literals, sorted_at}
use Rattle.meaning.proofs.TestLaws.{all_numbers, list_all-both, list_all-flat_map}
use Rattle.meaning.proofs.VariableLaws.{known_from, lit_of-opposite}

module _ (size : Extent) where
  -- ---- the rows of a formula have literals of the size

  abbrev all_right : List Disjunction → Type 0
  all_right rows = list_all (list_all (is_literal size)) rows ≡ true

  right-map : (c : List Literal) (ys : List Disjunction) → list_all (is_literal size) c ≡ true → all_right ys → all_right (map (λ d. c ++ d) ys)
  right-map c [] h k = refl
  right-map c (d ∷ ys) h k = let e = and_parts (list_all (is_literal size) d) (list_all (list_all (is_literal size)) ys) k in and_from _ _ (list_all-both (is_literal size) c d h e.0) (right-map c ys h e.1)

  right-joined : (xs ys : List Disjunction) → all_right xs → all_right ys → all_right (joined xs ys)
  right-joined [] ys h k = refl
  right-joined (c ∷ xs) ys h k =
      let e = and_parts (list_all (is_literal size) c) (list_all (list_all (is_literal size)) xs) h in
      list_all-both (list_all (is_literal size)) (map (λ d. c ++ d) ys) (joined xs ys) (right-map c ys e.0 k) (right-joined xs ys e.1 k)

  right-truth : (t : Three) (row : List Disjunction) → all_right row → all_right (for_truth t row)
  right-truth True row h = refl
  right-truth False row h = refl
  right-truth Unknown row h = h

  right-falsity : (t : Three) (row : List Disjunction) → all_right row → all_right (for_falsity t row)
  right-falsity True row h = refl
  right-falsity False row h = refl
  right-falsity Unknown row h = h

  pub rows_right : (w : Written) → AllFacts (λ l. is_literal size l ≡ true) w → all_right (plus w) × all_right (minus w)
  rows_right (Known true) h = (refl, refl)
  rows_right (Known false) h = (refl, refl)
  rows_right (Fact l) h = (and_from _ _ (and_from _ _ h refl) refl, and_from _ _ (and_from _ _ (is_literal-opposite size size.kind l h) refl) refl)
  rows_right (Neg a) h = let r = rows_right a h in (right-truth _ (minus a) r.1, right-falsity _ (plus a) r.0)
  rows_right (And a b) h =
      let r = rows_right a h.0 in
      let s = rows_right b h.1 in
      (right-truth _ (plus a ++ plus b) (list_all-both (list_all (is_literal size)) (plus a) (plus b) r.0 s.0), right-falsity _ (joined (minus a) (minus b)) (right-joined (minus a) (minus b) r.1 s.1))
  rows_right (Or a b) h =
      let r = rows_right a h.0 in
      let s = rows_right b h.1 in
      (right-truth _ (joined (plus a) (plus b)) (right-joined (plus a) (plus b) r.0 s.0), right-falsity _ (minus a ++ minus b) (list_all-both (list_all (is_literal size)) (minus a) (minus b) r.1 s.1))
  rows_right (Iff a b) h =
      let r = rows_right a h.0 in
      let s = rows_right b h.1 in (
        right-truth _ (joined (minus a) (plus b) ++ joined (plus a) (minus b)) (list_all-both (list_all (is_literal size)) (joined (minus a) (plus b)) (joined (plus a) (minus b)) (right-joined (minus a) (plus b) r.1 s.0) (right-joined (plus a) (minus b) r.0 s.1)),
        right-falsity _ (joined (minus a) (minus b) ++ joined (plus a) (plus b)) (list_all-both (list_all (is_literal size)) (joined (minus a) (minus b)) (joined (plus a) (plus b)) (right-joined (minus a) (minus b) r.1 s.1) (right-joined (plus a) (plus b) r.0 s.0)),
      )

  -- ---- a false clause is a false row

  all-sorted_in : (t : Signed → Bool) (l : Signed) (c : Clause) → list_all t (sorted_in l c) ≡ true → (t l ≡ true) × (list_all t c ≡ true)
  all-sorted_in t l [] h = and_parts (t l) true h
  all-sorted_in t l (k ∷ ks) h = cases (nat_lt l.variable k.variable) (same_lit l k) refl h (all-sorted_in t l ks)
    where
      cases : (a b : Bool) → same_lit l k ≡ b → list_all t (cond a (l ∷ k ∷ ks) (cond b (k ∷ ks) (k ∷ sorted_in l ks))) ≡ true → (list_all t (sorted_in l ks) ≡ true → (t l ≡ true) × (list_all t ks ≡ true)) → (t l ≡ true) × (list_all t (k ∷ ks) ≡ true)
      cases true b e g ih = and_parts (t l) (list_all t (k ∷ ks)) g
      cases false true e g ih = (subst (λ x. t x ≡ true) (sym (same_lit-equal l k e)) (and_parts (t k) (list_all t ks) g).0, g)
      cases false false e g ih =
          let f = and_parts (t k) (list_all t (sorted_in l ks)) g in
          let r = ih f.1 in (r.0, and_from _ _ f.0 r.1)

  all-sorted : (t : Signed → Bool) (ls : List Signed) → list_all t (sorted ls) ≡ true → list_all t ls ≡ true
  all-sorted t [] h = refl
  all-sorted t (l ∷ ls) h = let r = all-sorted_in t l (sorted ls) h in and_from _ _ r.0 (all-sorted t ls r.1)

  module _ (known : List Literal) (all_known : list_all (is_literal size) known ≡ true) where
    row_false : (row : List Literal) → list_all (is_literal size) row ≡ true → list_all (λ l. has_lit (map (lit_of size) known) (opposite_lit l)) (map (lit_of size) row) ≡ true → are_false known row ≡ true
    row_false [] h k = refl
    row_false (l ∷ row) h k =
        let e = and_parts (is_literal size l) (list_all (is_literal size) row) h in
        let f = and_parts (has_lit (map (lit_of size) known) (opposite_lit (lit_of size l))) (list_all (λ x. has_lit (map (lit_of size) known) (opposite_lit x)) (map (lit_of size) row)) k in
        and_from _ _ (known_from size known (opposite_of l) all_known (is_literal-opposite size size.kind l e.0) (ap (has_lit (map (lit_of size) known)) (lit_of-opposite size size.kind l e.0) ∙ f.0)) (row_false row e.1 f.1)

    clause_false : (row : List Literal) → list_all (is_literal size) row ≡ true → is_falsified (map (lit_of size) known) (sorted (map (lit_of size) row)) ≡ true → are_false known row ≡ true
    clause_false row h k = row_false row h (all-sorted (λ l. has_lit (map (lit_of size) known) (opposite_lit l)) (map (lit_of size) row) k)

    -- what follows from a false clause of some rows follows for each clause that they make
    each_clause : (P : Type 0) (Q : Clause → Sourced) → ((c : Clause) → (Q c).clause ≡ c) → (R : Origin → Type 0) → ((c : Clause) → P → R (Q c).origin) → (rows : List Disjunction) → all_right rows → (some_false known rows ≡ true → P) → AllByRecursion (λ (s : Sourced). is_falsified (map (lit_of size) known) s.clause ≡ true → R s.origin) (map Q (clauses_of size rows))
    each_clause P Q same R gives [] h f = tt
    each_clause P Q same R gives (row ∷ rows) h f = cases (is_tautology (sorted (map (lit_of size) row))) (each_clause P Q same R gives rows (and_parts (list_all (is_literal size) row) (list_all (list_all (is_literal size)) rows) h).1 (λ k. f (or_right _ _ k)))
      where
        e : (list_all (is_literal size) row ≡ true) × all_right rows
        e = and_parts (list_all (is_literal size) row) (list_all (list_all (is_literal size)) rows) h

        cases : (b : Bool) → AllByRecursion (λ (s : Sourced). is_falsified (map (lit_of size) known) s.clause ≡ true → R s.origin) (map Q (clauses_of size rows)) → AllByRecursion (λ (s : Sourced). is_falsified (map (lit_of size) known) s.clause ≡ true → R s.origin) (map Q (cond (not b) (sorted (map (lit_of size) row) ∷ clauses_of size rows) (clauses_of size rows)))
        cases true ih = ih
        cases false ih = (λ k. gives (sorted (map (lit_of size) row)) (f (or_left _ _ (clause_false row e.0 (ap (is_falsified (map (lit_of size) known)) (sym (same (sorted (map (lit_of size) row)))) ∙ k)))), ih)

-- ---- the frame

module _ (size : Extent) (p : ℕ) (in_p : p < sort_count size Profile) where
  -- a literal of the kind at the profile
  abbrev pub is_here : Kind → Literal → Bool
  is_here k l = is_literal_of size k l && (profile_of l == p)

  winner_here : (x : ℕ) → x < size.alternatives → (nat_lt x size.alternatives && nat_lt p (sort_count size Profile) && (p == p)) ≡ true
  winner_here x lt = and_from _ _ (winner_literal size x p lt in_p) (eq-eqb p p refl)

  winners_here : list_all (is_here Choice) (some_winner size p) ≡ true
  winners_here =
      list_all-map (is_here Choice) (λ (x : ℕ). Wins x p) (below size.alternatives) ∙ all_from (λ x. is_here Choice (Wins x p)) size.alternatives 0 (λ x low high. let in_x : x < size.alternatives = omega arith in winner_here x in_x)

  pub frame_here : (k : Kind) → list_all (list_all (is_here k)) (frame_of size k p) ≡ true
  frame_here Choice =
      and_from _ _ winners_here
      (list_all-map (list_all (is_here Choice)) (not_both p) (pairs size.alternatives)
      ∙ pairs-from size.alternatives (λ t. list_all (is_here Choice) (not_both p t)) (λ x y lt l. let in_x : x < size.alternatives = omega arith in and_from _ _ (winner_here x in_x) (and_from _ _ (winner_here y l) refl)))
  frame_here Ranking =
      list_all-flat_map (list_all (is_here Ranking)) (no_circle p) (triples size.alternatives)
      ∙ triples-from size.alternatives (λ (t : ℕ × ℕ × ℕ). list_all (list_all (is_here Ranking)) (no_circle p t)) (λ x y z lt lt' l.
      let in_y : y < size.alternatives = omega arith in
      let in_x : x < size.alternatives = omega arith in
      let xz : x < z = omega arith in
      let a = unequal x y lt in
      let b = unequal y z lt' in
      let c = unequal x z xz in
      and_from _ _
      (and_from _ _ (here y x in_y in_x a.1) (and_from _ _ (here z y l in_y b.1) (and_from _ _ (here x z in_x l c.0) refl)))
      (and_from _ _ (and_from _ _ (here z x l in_x c.1) (and_from _ _ (here y z in_y l b.0) (and_from _ _ (here x y in_x in_y a.0) refl))) refl))
    where
      here : (x y : ℕ) → x < size.alternatives → y < size.alternatives → (x == y) ≡ false → is_here Ranking (Above x y p) ≡ true
      here x y in_x in_y ne = and_from _ _ (ranking_literal size x y p in_x in_y ne in_p) (eq-eqb p p refl)
  frame_here Sets = and_from _ _ winners_here refl

  pub right_here : (rows : List Disjunction) → list_all (list_all (is_here size.kind)) rows ≡ true → list_all (list_all (is_literal size)) rows ≡ true
  right_here [] h = refl
  right_here (row ∷ rows) h = let e = and_parts (list_all (is_here size.kind) row) (list_all (list_all (is_here size.kind)) rows) h in and_from _ _ (right_row row e.0) (right_here rows e.1)
    where
      right_row : (ls : List Literal) → list_all (is_here size.kind) ls ≡ true → list_all (is_literal size) ls ≡ true
      right_row [] k = refl
      right_row (l ∷ ls) k = let e = and_parts (is_here size.kind l) (list_all (is_here size.kind) ls) k in and_from _ _ (and_parts (is_literal size l) (profile_of l == p) e.0).0 (right_row ls e.1)

  -- of an outcome at which the known literals hold no literal holds whose opposite is known
  opposite_fails : (o : ℕ) (l : Literal) → holds_of size o (opposite_of l) ≡ true → holds_of size o l ≡ false
  opposite_fails o (Wins x q) h = not-true _ h
  opposite_fails o (Loses x q) h = ap not h
  opposite_fails o (Above x y q) h = let lt = ltb-true _ _ h in le-ltb _ _ (omega (arith, lt))

  holds_here : (o : ℕ) (known : List Literal) (l : Literal) → list_all (holds_of size o) (filter (λ k. profile_of k == p) known) ≡ true → has known l ≡ true → profile_of l ≡ p → holds_of size o l ≡ true
  holds_here o [] l h k e = absurd (true≢false (sym k))
  holds_here o (x ∷ known) l h k e = cases (profile_of x == p) refl h (or_cases (same_literal l x) (has known l) k) (holds_here o known l)
    where
      cases : (b : Bool) → (profile_of x == p) ≡ b → list_all (holds_of size o) (cond b (x ∷ filter (λ y. profile_of y == p) known) (filter (λ y. profile_of y == p) known)) ≡ true → (same_literal l x ≡ true) ⊎ (has known l ≡ true) → (list_all (holds_of size o) (filter (λ y. profile_of y == p) known) ≡ true → has known l ≡ true → profile_of l ≡ p → holds_of size o l ≡ true) → holds_of size o l ≡ true
      cases true f g (inl same) ih = subst (λ y. holds_of size o y ≡ true) (sym (same_literal-equal l x same)) (and_parts (holds_of size o x) _ g).0
      cases true f g (inr later) ih = ih (and_parts (holds_of size o x) _ g).1 later e
      cases false f g (inl same) ih = absurd (both_ways _ f (eq-eqb _ _ (sym (ap profile_of (same_literal-equal l x same)) ∙ e)))
      cases false f g (inr later) ih = ih g later e

  row_fails : (o : ℕ) (known row : List Literal) → list_all (holds_of size o) (filter (λ k. profile_of k == p) known) ≡ true → list_all (is_here size.kind) row ≡ true → are_false known row ≡ true → list_any (holds_of size o) row ≡ false
  row_fails o known [] h r k = refl
  row_fails o known (l ∷ row) h r k =
      let e = and_parts (is_here size.kind l) (list_all (is_here size.kind) row) r in
      let f = and_parts (has known (opposite_of l)) (are_false known row) k in
      let at_p : profile_of l ≡ p = eqb-true _ _ (and_parts (is_literal size l) (profile_of l == p) e.0).1 in
      ap₂ (λ a b. a || b) (opposite_fails o l (holds_here o known (opposite_of l) h f.0 (profile_of-opposite l ∙ at_p))) (row_fails o known row h e.1 f.1)

  rows_fail : (o : ℕ) (known : List Literal) (rows : List Disjunction) → list_all (holds_of size o) (filter (λ k. profile_of k == p) known) ≡ true → list_all (list_all (is_here size.kind)) rows ≡ true → some_false known rows ≡ true → list_all (list_any (holds_of size o)) rows ≡ true → ⊥
  rows_fail o known [] h r k t = true≢false (sym k)
  rows_fail o known (row ∷ rows) h r k t =
      let e = and_parts (list_all (is_here size.kind) row) (list_all (list_all (is_here size.kind)) rows) r in
      let f = and_parts (list_any (holds_of size o) row) (list_all (list_any (holds_of size o)) rows) t in
      elim (or_cases (are_false known row) (some_false known rows) k) [
        | inl g ↦ both_ways _ (row_fails o known row h e.0 g) f.0
        | inr g ↦ rows_fail o known rows h e.1 g f.1
      ]

  excluded : (known : List Literal) → some_false known (frame_of size size.kind p) ≡ true → is_outcome_excluded size known p ≡ true
  excluded known k = ap not (false_from_ne_true _ (λ t.
      let r = any_at (λ o. list_all (holds_of size o) (filter (λ l. profile_of l == p) known)) (outcome_count size.kind size.alternatives) 0 t in
      let in_o : r.0 < outcome_count size.kind size.alternatives = omega (arith, r.2) in
      rows_fail r.0 known (frame_of size size.kind p) r.3 (frame_here size.kind) k ((is_frame size p in_p).each r.0 in_o)))

-- ---- the clauses of a study

pub All-firsts : (P : Sourced → Type 0) (seen : List Clause) (ss : List Sourced) → AllByRecursion P ss → AllByRecursion P (firsts seen ss)
All-firsts P seen [] h = tt
All-firsts P seen (s ∷ ss) h =
    elim (list_any (pointwise same_lit s.clause) seen) as (λ b. AllByRecursion P (cond b (firsts seen ss) (s ∷ firsts (s.clause ∷ seen) ss))) [ true ↦ All-firsts P seen ss h.1 | false ↦ (h.0, All-firsts P (s.clause ∷ seen) ss h.1) ]

module _ (size : Extent) (axioms : List Titled) (sentences : list_all (is_sentence size) axioms ≡ true) (chosen : List ℕ) (known : List Literal) (all_known : list_all (is_literal size) known ≡ true) (no_pair : HasNoPair known) where
  abbrev Told : Sourced → Type 0
  Told s = is_falsified (map (lit_of size) known) s.clause ≡ true → RefuteOrigin size axioms chosen known s.origin

  frame_told : (p : ℕ) → p < sort_count size Profile → AllByRecursion Told (from_frame size p)
  frame_told p in_p =
      each_clause size known all_known (is_outcome_excluded size known p ≡ true) (λ c. record { clause = c; origin = Frame p }) (λ c. refl) (RefuteOrigin size axioms chosen known) (λ c e. e)
      (frame_of size size.kind p) (right_here size p in_p (frame_of size size.kind p) (frame_here size p in_p size.kind)) (excluded size p in_p known)

  false_from : (t : Three) → t ≡ False → is_false t ≡ true
  false_from t e = ap is_false e

  instance_told : (k i : ℕ) (a : Titled) → slice_get axioms k ≡ Some a → is_sorted size [] a.sentence ≡ true → i < instance_count size a.sentence → list_any (λ c. c == k) chosen ≡ true → AllByRecursion Told (from_instance size k a.sentence i)
  instance_told k i a is sorted lt inside =
      let values = digits_of (bases_of size a.sentence) i in
      let digits = (are_one_to_one (bases_of size a.sentence)).digits i lt in
      let facts = instance_literals size a.sentence sorted i lt in
      each_clause size known all_known (is_instance_false size known (Some a) values ≡ true) (λ c. record { clause = c; origin = Instance k i }) (λ c. refl) (RefuteOrigin size axioms chosen known)
      (λ c e. subst (λ o. IfAxiom o (λ x. (i < instance_count size x.sentence) × IsTrue (list_any (λ d. d == k) chosen && is_instance_false size known o (instance_values size x.sentence i)))) (sym is) (lt, and_from _ _ inside e))
      (plus (instance_of size a.sentence i)) (rows_right size (instance_of size a.sentence i) facts).0
      (λ f. and_from _ _ digits (false_from _ ((clauses_decide known no_pair (instance_of size a.sentence i)).0 f)))

  axiom_told : (k : ℕ) (o : Option Titled) → slice_get axioms k ≡ o → IfSorted size o → list_any (λ c. c == k) chosen ≡ true → AllByRecursion Told (from_axiom size k o)
  axiom_told k None is h inside = tt
  axiom_told k (Some a) is h inside =
      All-firsts Told [] (flat_map (from_instance size k a.sentence) (below (instance_count size a.sentence)))
      (All-flat_map Told (from_instance size k a.sentence) (below (instance_count size a.sentence)) (all_numbers _ (instance_count size a.sentence) 0 (λ i lt. instance_told k i a is h (omega (arith, lt)) inside)))

  everywhere_told : (places : List ℕ) → ((k : ℕ) → list_any (λ c. c == k) places ≡ true → list_any (λ c. c == k) chosen ≡ true) → AllByRecursion (λ (k : ℕ). AllByRecursion Told (from_axiom size k (slice_get axioms k))) places
  everywhere_told [] inside = tt
  everywhere_told (k ∷ places) inside =
      (axiom_told k (slice_get axioms k) refl (sorted_at size axioms k sentences) (inside k (or_left _ _ (eq-eqb k k refl))), everywhere_told places (λ j h. inside j (or_right _ _ h)))

  study_told : AllByRecursion Told (study_clauses size axioms chosen)
  study_told =
      All-append Told (flat_map (from_frame size) (below (sort_count size Profile))) (flat_map (λ (k : ℕ). from_axiom size k (slice_get axioms k)) chosen)
      (All-flat_map Told (from_frame size) (below (sort_count size Profile)) (all_numbers _ (sort_count size Profile) 0 (λ p lt. frame_told p (omega (arith, lt)))))
      (All-flat_map Told (λ (k : ℕ). from_axiom size k (slice_get axioms k)) chosen (everywhere_told chosen (λ k h. h)))

pub have_reasons : (size : Extent) → (axioms : List Titled) → list_all (is_sentence size) axioms ≡ true → (chosen : List ℕ) →
    (known : List Literal) → list_all (is_literal size) known ≡ true → HasNoPair known →
    AllByRecursion (λ (s : Sourced). is_falsified (map (lit_of size) known) s.clause ≡ true → RefuteOrigin size axioms chosen known s.origin) (study_clauses size axioms chosen)
have_reasons size axioms sentences chosen known all_known no_pair = study_told size axioms sentences chosen known all_known no_pair
