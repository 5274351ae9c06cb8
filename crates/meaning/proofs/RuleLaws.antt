-- The assignments that satisfy the clauses of a study are the bits of the rules that satisfy its axioms.
use Rattle.std.proofs.Common.{◌&&◌, ◌+◌, ◌<◌, Bool, List, ap, ap₂, arith, eq-eqb, false, length, lt-ltb, ltb-true, not, refl, subst, suc, sym, true, zero, ℕ, ◌↔◌, ◌∙◌, ◌∷◌, ◌≡◌, ◌≤◌, ◌||◌, [], Some}
use Rattle.std.proofs.lemmas.Bool.{and_from, and_parts}
use Rattle.std.proofs.lemmas.List.Folds.{list_all-map}
use Rattle.std.proofs.lemmas.List.Recursion.{and_from_places}
use Rattle.std.specs.Bool.{beq}
use Rattle.std.specs.List.{list_all, list_any}
use Rattle.std.specs.Prelude.{◌==◌, IsTrue, nat_le, nat_lt, slice_get, slice_index}
use Rattle.lists.proofs.TestLaws.{all_get}
use Rattle.vocab.specs.Formula.{quantifier_depth}
use Rattle.vocab.specs.Limits.{instance_count}
use Rattle.vocab.specs.Literal.{profile_of}
use Rattle.vocab.specs.Size.{Extent, outcome_count, sort_count}
use Rattle.vocab.specs.Sorted.{is_sorted}
use Rattle.vocab.specs.Study.{is_sentence}
use Rattle.vocab.specs.Titled.{Titled}
use Rattle.vocab.specs.Tree.{Tree}
use Rattle.vocab.specs.declared.kinds.Kind.{Kind}
use Rattle.vocab.specs.declared.kinds.Kind.TheVariants.{Choice, Ranking, Sets}
use Rattle.vocab.specs.declared.kinds.Sort.TheVariants.{Profile}
use Rattle.vocab.specs.declared.literals.Literal.{Literal}
use Rattle.vocab.specs.declared.literals.Literal.TheVariants.{Above, Loses, Wins}
use Rattle.cnf.specs.Sat.{is_satisfied}
use Rattle.meaning.specs.Laws.{AllFacts, AreBitsOf, AreOf, are_instances_true, is_frame_true, literal_under}
use Rattle.meaning.specs.Literals.{is_literal, is_literal_of, is_of_winner}
use Rattle.meaning.specs.Space.{below}
use Rattle.meaning.specs.StudyClauses.{no_circle, not_both, some_winner, frame_of, instance_of, clauses_for}
use Rattle.meaning.specs.Truth.{holds, holds_of, is_axiom_true, is_rule, is_true_at, satisfies}
use Rattle.meaning.specs.Variables.{bits_of, pairs, triples}
use Rattle.meaning.specs.Written.{And, Fact, Iff, Known, Neg, Or, Written, evaluate}
use Rattle.meaning.proofs.BitLaws.{HasValues, bits_from_values, values_from_bits}
use Rattle.meaning.proofs.FrameLaws.{is_frame, is_circle_free}
use Rattle.meaning.proofs.InstanceLaws.{are_instances}
use Rattle.meaning.proofs.LiteralLaws.{winner_literal, profile_in, ranking_literal, unequal}
use Rattle.meaning.proofs.PairLaws.{pairs-same, triples-same}
use Rattle.meaning.proofs.SpaceLaws.{all_at, all_from}
use Rattle.meaning.proofs.StoryLaws.{outcome_in_range}
use Rattle.meaning.proofs.SentenceLaws.{instance_literals}
use Rattle.meaning.proofs.StudyLaws.{AllFacts-map, satisfy_study, literal_under-opposite}
use Rattle.meaning.proofs.TestLaws.{all-agree, any-agree, list_all-flat_map, list_any-map}

module _ (size : Extent) (p : ℕ) (in_p : p < sort_count size Profile) (v u : Literal → Bool) where
  winners-same : ((l : Literal) → is_of_winner size l ≡ true → profile_of l ≡ p → v l ≡ u l) → list_any v (some_winner size p) ≡ list_any u (some_winner size p)
  winners-same h =
      list_any-map v (λ (x : ℕ). Wins x p) (below size.alternatives)
      ∙ any-agree (λ x. v (Wins x p)) (λ x. u (Wins x p)) size.alternatives 0 (λ x lt. h (Wins x p) (winner_literal size x p (omega arith) in_p) refl)
      ∙ sym (list_any-map u (λ (x : ℕ). Wins x p) (below size.alternatives))

  -- truth values that agree on the literals at a profile agree on its frame
  pub frame-same : (k : Kind) → ((l : Literal) → is_literal_of size k l ≡ true → profile_of l ≡ p → v l ≡ u l) → list_all (list_any v) (frame_of size k p) ≡ list_all (list_any u) (frame_of size k p)
  frame-same Choice h =
      ap₂ (λ a b. a && b) (winners-same h)
      (list_all-map (list_any v) (not_both p) (pairs size.alternatives)
      ∙ pairs-same size.alternatives (λ t. list_any v (not_both p t)) (λ t. list_any u (not_both p t)) (λ x y lt l.
      let in_x : x < size.alternatives = omega arith in
      ap₂ (λ a b. a || (b || false)) (h (Loses x p) (in_range x in_x) refl) (h (Loses y p) (in_range y l) refl))
      ∙ sym (list_all-map (list_any u) (not_both p) (pairs size.alternatives)))
    where
      in_range : (x : ℕ) → x < size.alternatives → (nat_lt x size.alternatives && nat_lt p (sort_count size Profile)) ≡ true
      in_range x lt = winner_literal size x p lt in_p
  frame-same Ranking h =
      list_all-flat_map (list_any v) (no_circle p) (triples size.alternatives)
      ∙ triples-same size.alternatives (is_circle_free v p) (is_circle_free u p) (λ x y z lt lt' l.
      let in_y : y < size.alternatives = omega arith in
      let in_x : x < size.alternatives = omega arith in
      let xz : x < z = omega arith in
      let xy = unequal x y lt in
      let yz = unequal y z lt' in
      let xz' = unequal x z xz in
      let three = λ (a b c a' b' c' : Bool) (e : a ≡ a') (f : b ≡ b') (g : c ≡ c'). ap₂ (λ (r s : Bool). r || s) e (ap₂ (λ (r s : Bool). r || (s || false)) f g) in
      ap₂ (λ a b. a && (b && true))
      (three _ _ _ _ _ _ (agree y x in_y in_x xy.1) (agree z y l in_y yz.1) (agree x z in_x l xz'.0))
      (three _ _ _ _ _ _ (agree z x l in_x xz'.1) (agree y z in_y l yz.0) (agree x y in_x in_y xy.0)))
      ∙ sym (list_all-flat_map (list_any u) (no_circle p) (triples size.alternatives))
    where
      agree : (x y : ℕ) → x < size.alternatives → y < size.alternatives → (x == y) ≡ false → v (Above x y p) ≡ u (Above x y p)
      agree x y in_x in_y ne = h (Above x y p) (ranking_literal size x y p in_x in_y ne in_p) refl
  frame-same Sets h = ap (λ a. a && true) (winners-same h)

-- ---- a list of what there is at each number

listed : (Q : ℕ → ℕ → Type 0) (n a : ℕ) → ((p : ℕ) → a ≤ p → p < a + n → (o : ℕ) × Q p o) → (table : List ℕ) × (length table ≡ n) × ((i : ℕ) → i < n → Q (a + i) (slice_index table i))
listed Q zero a h = ([], refl, λ i lt. absurd (omega arith))
listed Q (suc n) a h =
    let first = h a (omega arith) (omega arith) in
    let rest = listed Q n (suc a) (λ p low high. h p (omega arith) (omega arith)) in
    (first.0 ∷ rest.0, ap suc rest.1, λ i lt. at i lt first.0 first.1 rest.0 rest.2)
  where
    at : (i : ℕ) → i < suc n → (o : ℕ) → Q a o → (os : List ℕ) → ((j : ℕ) → j < n → Q (suc a + j) (slice_index os j)) → Q (a + i) (slice_index (o ∷ os) i)
    at zero lt o q os qs = let e : a ≡ a + 0 = omega arith in subst (λ (k : ℕ). Q k o) e q
    at (suc i) lt o q os qs = let e : suc a + i ≡ a + suc i = omega arith in subst (λ (k : ℕ). Q k (slice_index os i)) e (qs i (omega arith))

evaluate-same : (v u : Literal → Bool) (w : Written) → AllFacts (λ l. v l ≡ u l) w → evaluate v w ≡ evaluate u w
evaluate-same v u (Known b) h = refl
evaluate-same v u (Fact l) h = h
evaluate-same v u (Neg a) h = ap not (evaluate-same v u a h)
evaluate-same v u (And a b) h = ap₂ (λ x y. x && y) (evaluate-same v u a h.0) (evaluate-same v u b h.1)
evaluate-same v u (Or a b) h = ap₂ (λ x y. x || y) (evaluate-same v u a h.0) (evaluate-same v u b h.1)
evaluate-same v u (Iff a b) h = ap₂ beq (evaluate-same v u a h.0) (evaluate-same v u b h.1)

module _ (size : Extent) (v : ℕ → Bool) where
  -- ---- one axiom

  instances-same : (table : List ℕ) → HasValues size table v → (sentence : Tree) → is_sorted size [] sentence ≡ true → list_all (λ k. evaluate (literal_under size v) (instance_of size sentence k)) (below (instance_count size sentence)) ≡ is_true_at size table sentence []
  instances-same table bits sentence sorted =
      all-agree _ _ (instance_count size sentence) 0 (λ k lt.
      let facts = instance_literals size sentence sorted k (omega (arith, lt)) in
      evaluate-same (literal_under size v) (holds size table) (instance_of size sentence k) (AllFacts-map (λ l. is_literal size l ≡ true) (λ l. literal_under size v l ≡ holds size table l) (instance_of size sentence k) bits facts))
      ∙ sym (are_instances size table sentence)

  axiom-same : (table : List ℕ) → HasValues size table v → (axioms : List Titled) (k : ℕ) → k < length axioms → list_all (is_sentence size) axioms ≡ true → are_instances_true size v (slice_get axioms k) ≡ is_axiom_true size table (slice_get axioms k)
  axiom-same table bits [] k lt h = absurd (omega arith)
  axiom-same table bits (a ∷ axioms) zero lt h =
      instances-same table bits a.sentence (and_parts (is_sorted size [] a.sentence) (nat_le (quantifier_depth a.sentence) 12) (and_parts (is_sentence size a) (list_all (is_sentence size) axioms) h).0).0
  axiom-same table bits (a ∷ axioms) (suc k) lt h = axiom-same table bits axioms k (omega (arith, lt)) (and_parts (is_sentence size a) (list_all (is_sentence size) axioms) h).1

  axioms-same : (table : List ℕ) → HasValues size table v → (axioms : List Titled) → list_all (is_sentence size) axioms ≡ true → (chosen : List ℕ) → list_all (λ k. nat_lt k (length axioms)) chosen ≡ true → list_all (λ k. are_instances_true size v (slice_get axioms k)) chosen ≡ list_all (λ k. is_axiom_true size table (slice_get axioms k)) chosen
  axioms-same table bits axioms h [] in_range = refl
  axioms-same table bits axioms h (k ∷ chosen) in_range =
      let e = and_parts (nat_lt k (length axioms)) (list_all (λ j. nat_lt j (length axioms)) chosen) in_range in
      ap₂ (λ a b. a && b) (axiom-same table bits axioms k (ltb-true k _ e.0) h) (axioms-same table bits axioms h chosen e.1)

  -- ---- from the assignment to the rule

  -- an outcome of which the literals at p have these truth values
  abbrev Fits : ℕ → ℕ → Type 0
  Fits p o = (o < outcome_count size.kind size.alternatives) × AreOf size p o (literal_under size v)

  rule_from : is_frame_true size v ≡ true → (table : List ℕ) × (is_rule size table ≡ true) × HasValues size table v
  rule_from frames =
      let found = listed Fits (sort_count size Profile) 0 (λ p low high.
      let in_p : p < sort_count size Profile = omega arith in
      let one = (is_frame size p in_p).some (literal_under size v) (literal_under-opposite size v size.kind) (all_at (λ q. list_all (list_any (literal_under size v)) (frame_of size size.kind q)) (sort_count size Profile) 0 p frames low high) in
      (one.0, (one.1, one.2))) in
      (found.0, rule found.0 found.1 found.2, bits found.0 found.2)
    where
      rule : (table : List ℕ) → length table ≡ sort_count size Profile → ((i : ℕ) → i < sort_count size Profile → Fits (0 + i) (slice_index table i)) → is_rule size table ≡ true
      rule table e fits =
          and_from _ _ (eq-eqb _ _ e) (and_from_places (list_all (λ o. nat_lt o (outcome_count size.kind size.alternatives))) (λ o. nat_lt o (outcome_count size.kind size.alternatives)) refl (λ _ _. refl) table 0 (λ i lt. lt-ltb _ _ (fits i (omega (arith, lt, e))).0))

      bits : (table : List ℕ) → ((i : ℕ) → i < sort_count size Profile → Fits (0 + i) (slice_index table i)) → HasValues size table v
      bits table fits l in_l = let e : profile_of l ≡ 0 + profile_of l = omega arith in (fits (profile_of l) (profile_in size size.kind l in_l)).1 l in_l e

  -- ---- from the rule to the assignment

  frames_from : (table : List ℕ) → is_rule size table ≡ true → HasValues size table v → is_frame_true size v ≡ true
  frames_from table rule bits =
      all_from (λ p. list_all (list_any (literal_under size v)) (frame_of size size.kind p)) (sort_count size Profile) 0 (λ p low high.
      let in_p : p < sort_count size Profile = omega arith in
      frame-same size p in_p (literal_under size v) (holds_of size (slice_index table p)) size.kind (λ l in_l here. bits l in_l ∙ ap (λ (q : ℕ). holds_of size (slice_index table q) l) here)
      ∙ (is_frame size p in_p).each (slice_index table p) (outcome_in_range size table rule (let some : 0 < sort_count size Profile = omega arith in some) p))

  both_ways_of : (axioms : List Titled) → list_all (is_sentence size) axioms ≡ true → (chosen : List ℕ) → list_all (λ k. nat_lt k (length axioms)) chosen ≡ true →
      (is_satisfied v (clauses_for size axioms chosen) ≡ true) ↔ ((table : List ℕ) × (satisfies size axioms chosen table ≡ true) × HasValues size table v)
  both_ways_of axioms h chosen in_range = (
    λ sat.
        let e = and_parts (is_frame_true size v) (list_all (λ k. are_instances_true size v (slice_get axioms k)) chosen) (sym (satisfy_study size axioms h chosen v) ∙ sat) in
        let r = rule_from e.0 in
        (r.0, and_from _ _ r.1 (sym (axioms-same r.0 r.2 axioms h chosen in_range) ∙ e.1), r.2),
    λ r.
        let e = and_parts (is_rule size r.0) (list_all (λ k. is_axiom_true size r.0 (slice_get axioms k)) chosen) r.1 in
        satisfy_study size axioms h chosen v ∙ and_from _ _ (frames_from r.0 e.0 r.2) (axioms-same r.0 r.2 axioms h chosen in_range ∙ e.1),
  )

pub are_rules : (size : Extent) → (axioms : List Titled) → list_all (is_sentence size) axioms ≡ true →
    (chosen : List ℕ) → list_all (λ k. nat_lt k (length axioms)) chosen ≡ true → (v : ℕ → Bool) →
    IsTrue (is_satisfied v (clauses_for size axioms chosen)) ↔ ((table : List ℕ) × IsTrue (satisfies size axioms chosen table) × AreBitsOf size table v)
are_rules size axioms h chosen in_range v =
    let ways = both_ways_of size v axioms h chosen in_range in (
      λ sat. let r = ways.0 sat in (r.0, r.1, bits_from_values size r.0 v r.2),
      λ r.
          let rule : is_rule size r.0 ≡ true = (and_parts _ _ r.1).0 in
          ways.1 (r.0, r.1, values_from_bits size r.0 rule v r.2),
    )

pub are_satisfiable : (size : Extent) → (axioms : List Titled) → list_all (is_sentence size) axioms ≡ true →
    (chosen : List ℕ) → list_all (λ k. nat_lt k (length axioms)) chosen ≡ true →
    ((v : ℕ → Bool) × IsTrue (is_satisfied v (clauses_for size axioms chosen))) ↔ ((table : List ℕ) × IsTrue (satisfies size axioms chosen table))
are_satisfiable size axioms h chosen in_range = (
  λ a. let r = (are_rules size axioms h chosen in_range a.0).0 a.1 in (r.0, r.1),
  λ r. (bits_of size r.0, (are_rules size axioms h chosen in_range (bits_of size r.0)).1 (r.0, r.1, λ i low high. refl)),
)

-- what a rule has at a profile is an outcome
pub rule_outcome : (size : Extent) (table : List ℕ) (p o : ℕ) → is_rule size table ≡ true → slice_get table p ≡ Some o → o < outcome_count size.kind size.alternatives
rule_outcome size table p o rule at = ltb-true o _ (all_get (λ q. nat_lt q (outcome_count size.kind size.alternatives)) table p o (and_parts _ (list_all (λ q. nat_lt q (outcome_count size.kind size.alternatives)) table) rule).1 at)
