-- Literals, and literals of a size.
use Rattle.std.proofs.Common.{◌&&◌, ◌<◌, ap, ap₂, arith, cond, ◌∙◌, eq-eqb, eqb-true, false, lt-ltb, ltb-true, not, refl, sym, true, true≢false, ℕ, ◌≡◌}
use Rattle.std.proofs.lemmas.Bool.{and_from, and_parts, both_ways, false_from_ne_true, not-true}
use Rattle.std.specs.Prelude.{◌==◌, nat_lt}
use Rattle.vocab.specs.Literal.{opposite_of, profile_of, same_literal}
use Rattle.vocab.specs.Size.{Extent, sort_count}
use Rattle.vocab.specs.Sorted.{has_winners}
use Rattle.vocab.specs.declared.kinds.Kind.{Kind}
use Rattle.vocab.specs.declared.kinds.Kind.TheVariants.{Choice, Ranking, Sets}
use Rattle.vocab.specs.declared.kinds.Sort.TheVariants.{Profile}
use Rattle.vocab.specs.declared.literals.Literal.{Literal}
use Rattle.vocab.specs.declared.literals.Literal.TheVariants.{Above, Loses, Wins}
use Rattle.meaning.specs.Literals.{is_literal_of, is_of_winner, is_comparison}

-- ---- numbers that differ

pub differ : (x y : ℕ) → (x == y) ≡ false → (y == x) ≡ false
differ x y h = false_from_ne_true _ (λ e. both_ways _ h (eq-eqb x y (sym (eqb-true y x e))))

pub unequal : (x y : ℕ) → x < y → ((x == y) ≡ false) × ((y == x) ≡ false)
unequal x y lt = (false_from_ne_true _ (λ e. let d : x ≡ y = eqb-true x y e in absurd (omega arith)), false_from_ne_true _ (λ e. let d : y ≡ x = eqb-true y x e in absurd (omega arith)))

-- ---- literals

pub same_literal-equal : (a b : Literal) → same_literal a b ≡ true → a ≡ b
same_literal-equal (Wins x p) (Wins y q) h = let e = and_parts (x == y) (p == q) h in ap₂ Wins (eqb-true x y e.0) (eqb-true p q e.1)
same_literal-equal (Loses x p) (Loses y q) h = let e = and_parts (x == y) (p == q) h in ap₂ Loses (eqb-true x y e.0) (eqb-true p q e.1)
same_literal-equal (Above x y p) (Above v w q) h =
    let e = and_parts (x == v && y == w) (p == q) h in
    let f = and_parts (x == v) (y == w) e.0 in
    let a : x ≡ v = eqb-true x v f.0 in
    let b : y ≡ w = eqb-true y w f.1 in
    let c : p ≡ q = eqb-true p q e.1 in cc
same_literal-equal (Wins x p) (Loses y q) h = absurd (true≢false (sym h))
same_literal-equal (Wins x p) (Above v w q) h = absurd (true≢false (sym h))
same_literal-equal (Loses x p) (Wins y q) h = absurd (true≢false (sym h))
same_literal-equal (Loses x p) (Above v w q) h = absurd (true≢false (sym h))
same_literal-equal (Above x y p) (Wins v q) h = absurd (true≢false (sym h))
same_literal-equal (Above x y p) (Loses v q) h = absurd (true≢false (sym h))

pub same_literal-refl : (l : Literal) → same_literal l l ≡ true
same_literal-refl (Wins x p) = and_from _ _ (eq-eqb x x refl) (eq-eqb p p refl)
same_literal-refl (Loses x p) = and_from _ _ (eq-eqb x x refl) (eq-eqb p p refl)
same_literal-refl (Above x y p) = and_from _ _ (and_from _ _ (eq-eqb x x refl) (eq-eqb y y refl)) (eq-eqb p p refl)

pub opposite-opposite : (l : Literal) → opposite_of (opposite_of l) ≡ l
opposite-opposite (Wins x p) = refl
opposite-opposite (Loses x p) = refl
opposite-opposite (Above x y p) = refl

pub profile_of-opposite : (l : Literal) → profile_of (opposite_of l) ≡ profile_of l
profile_of-opposite (Wins x q) = refl
profile_of-opposite (Loses x q) = refl
profile_of-opposite (Above x y q) = refl

-- ---- literals of a size

module _ (size : Extent) where
  -- what it says that a literal is one of the size
  pub winner_in : (x p : ℕ) → (nat_lt x size.alternatives && nat_lt p (sort_count size Profile)) ≡ true → (x < size.alternatives) × (p < sort_count size Profile)
  winner_in x p h = let e = and_parts (nat_lt x size.alternatives) (nat_lt p (sort_count size Profile)) h in (ltb-true x _ e.0, ltb-true p _ e.1)

  pub ranking_in : (x y p : ℕ) → is_literal_of size Ranking (Above x y p) ≡ true → (x < size.alternatives) × (y < size.alternatives) × ((x == y) ≡ false) × (p < sort_count size Profile)
  ranking_in x y p h =
      let a = and_parts (nat_lt x size.alternatives && nat_lt y size.alternatives && not (x == y)) (nat_lt p (sort_count size Profile)) h in
      let b = and_parts (nat_lt x size.alternatives && nat_lt y size.alternatives) (not (x == y)) a.0 in
      let c = and_parts (nat_lt x size.alternatives) (nat_lt y size.alternatives) b.0 in
      (ltb-true x _ c.0, ltb-true y _ c.1, not-true _ b.1, ltb-true p _ a.1)

  -- and what makes it one
  pub winner_literal : (x p : ℕ) → x < size.alternatives → p < sort_count size Profile → (nat_lt x size.alternatives && nat_lt p (sort_count size Profile)) ≡ true
  winner_literal x p in_x in_p = and_from _ _ (lt-ltb x _ in_x) (lt-ltb p _ in_p)

  pub ranking_literal : (x y p : ℕ) → x < size.alternatives → y < size.alternatives → (x == y) ≡ false → p < sort_count size Profile → is_literal_of size Ranking (Above x y p) ≡ true
  ranking_literal x y p in_x in_y ne in_p = and_from _ _ (and_from _ _ (and_from _ _ (lt-ltb x _ in_x) (lt-ltb y _ in_y)) (ap not ne)) (lt-ltb p _ in_p)

  -- literals of a kind: whether an alternative wins, where the outcome has winners, and comparisons, where it has none
  pub of_winner : (k : Kind) (l : Literal) → has_winners k ≡ true → is_of_winner size l ≡ true → is_literal_of size k l ≡ true
  of_winner Choice l some h = h
  of_winner Ranking l some h = absurd (true≢false (sym some))
  of_winner Sets l some h = h

  pub of_comparison : (k : Kind) (l : Literal) → not (has_winners k) ≡ true → is_comparison size l ≡ true → is_literal_of size k l ≡ true
  of_comparison Choice l none h = absurd (true≢false (sym none))
  of_comparison Ranking l none h = h
  of_comparison Sets l none h = absurd (true≢false (sym none))

  winner-opposite : (l : Literal) → is_of_winner size l ≡ true → is_of_winner size (opposite_of l) ≡ true
  winner-opposite (Wins x p) h = h
  winner-opposite (Loses x p) h = h
  winner-opposite (Above x y p) h = absurd (true≢false (sym h))

  pub is_literal-opposite : (k : Kind) (l : Literal) → is_literal_of size k l ≡ true → is_literal_of size k (opposite_of l) ≡ true
  is_literal-opposite Choice l h = winner-opposite l h
  is_literal-opposite Ranking (Wins x p) h = absurd (true≢false (sym h))
  is_literal-opposite Ranking (Loses x p) h = absurd (true≢false (sym h))
  is_literal-opposite Ranking (Above x y p) h = let a = ranking_in x y p h in ranking_literal y x p a.1 a.0 (differ x y a.2) a.3
  is_literal-opposite Sets l h = winner-opposite l h

  profile_of_winner : (l : Literal) → is_of_winner size l ≡ true → profile_of l < sort_count size Profile
  profile_of_winner (Wins x p) h = (winner_in x p h).1
  profile_of_winner (Loses x p) h = (winner_in x p h).1
  profile_of_winner (Above x y p) h = absurd (true≢false (sym h))

  -- the profile of a literal of the size is one of the size
  pub profile_in : (k : Kind) (l : Literal) → is_literal_of size k l ≡ true → profile_of l < sort_count size Profile
  profile_in Choice l h = profile_of_winner l h
  profile_in Ranking (Wins x p) h = absurd (true≢false (sym h))
  profile_in Ranking (Loses x p) h = absurd (true≢false (sym h))
  profile_in Ranking (Above x y p) h = (ranking_in x y p h).3
  profile_in Sets l h = profile_of_winner l h
