-- Literals of a size and the variables of its studies are one to one.
use Rattle.std.proofs.Common.{◌%◌, ◌&&◌, ◌*◌, ◌+◌, ◌-◌, ◌/◌, ◌<◌, Bool, List, add-mul, ap, ap₂, arith, cond, eq-eqb, eqb-true, false, inl, inr, le-ltb, length, lt-ltb, map, mul_comm, not, refl, subst, sym, true, true≢false, ℕ, ◌∙◌, ◌∷◌, ◌≡◌, ◌≤◌, []}
use Rattle.std.proofs.Math.Nat.{div-add-mod'}
use Rattle.std.proofs.lemmas.Bool.{and_parts, both_ways, cases_order, or_cases, or_left, or_right}
use Rattle.std.proofs.lemmas.Nat.{div-mul-add, div_below, mod-mul-add, mod_below, mul-add-lt}
use Rattle.std.specs.List.{list_all}
use Rattle.std.specs.Prelude.{nat_lt}
use Rattle.vocab.specs.Literal.{has, opposite_of, profile_of, same_literal}
use Rattle.vocab.specs.Size.{Extent, sort_count}
use Rattle.vocab.specs.declared.kinds.Kind.{Kind}
use Rattle.vocab.specs.declared.kinds.Kind.TheVariants.{Choice, Ranking, Sets}
use Rattle.vocab.specs.declared.kinds.Sort.TheVariants.{Profile}
use Rattle.vocab.specs.declared.literals.Literal.{Literal}
use Rattle.vocab.specs.declared.literals.Literal.TheVariants.{Above, Loses, Wins}
use Rattle.cnf.proofs.LitLaws.{same_lit-equal}
use Rattle.cnf.specs.Sat.{has_lit, opposite_lit, same_lit}
use Rattle.cnf.specs.Signed.{Signed}
use Rattle.meaning.specs.Laws.{AreVariables}
use Rattle.meaning.specs.Literals.{is_literal, is_literal_of, is_of_winner}
use Rattle.meaning.specs.Variables.{bits, lit_of, literal_at, literal_of, pair_place, pairs, winner_at}
use Rattle.meaning.proofs.DigitLaws.{positive_right}
use Rattle.meaning.proofs.LiteralLaws.{winner_in, winner_literal, ranking_in, ranking_literal, same_literal-refl, unequal}
use Rattle.meaning.proofs.PairLaws.{pair_at, pair_found, pair_rises, place_of_pair}

-- the profile of a variable, and its place there
split_at : (p n j k : ℕ) → j < n → k ≡ p * n + j → (k / n ≡ p) × (k % n ≡ j)
split_at p n j k lt e = (ap (λ (x : ℕ). x / n) e ∙ div-mul-add p n j lt, ap (λ (x : ℕ). x % n) e ∙ mod-mul-add p n j lt)

quotient : (p n v : ℕ) → p * n ≤ v → v < (p + 1) * n → v / n ≡ p
quotient p n v low high = (split_at p n (v - p * n) v (omega (arith, add-mul p 1 n)) (omega arith)).0

module _ (size : Extent) where
  -- ---- the variables of comparisons

  abbrev at : ℕ → ℕ → ℕ → Bool → Signed
  at p a b sign = record { variable = p * length (pairs size.alternatives) + 1 + pair_place size.alternatives a b; positive = sign }

  lit_up : (x y p : ℕ) → x < y → lit_of size (Above x y p) ≡ at p x y true
  lit_up x y p lt = ap (λ a. cond a (at p x y true) (at p y x false)) (lt-ltb x y lt)

  lit_down : (x y p : ℕ) → y < x → lit_of size (Above x y p) ≡ at p y x false
  lit_down x y p lt = ap (λ a. cond a (at p x y true) (at p y x false)) (le-ltb x y (omega arith))

  -- ---- opposites

  pub lit_of-opposite : (k : Kind) (l : Literal) → is_literal_of size k l ≡ true → lit_of size (opposite_of l) ≡ opposite_lit (lit_of size l)
  lit_of-opposite k (Wins x p) h = refl
  lit_of-opposite k (Loses x p) h = refl
  lit_of-opposite Choice (Above x y p) h = absurd (true≢false (sym h))
  lit_of-opposite Ranking (Above x y p) h = elim (cases_order x y) [
    | inl e ↦ absurd (both_ways _ (ranking_in size x y p h).2 (eq-eqb x y e))
    | inr other ↦ elim other [ inl lt ↦ lit_down y x p lt ∙ sym (ap opposite_lit (lit_up x y p lt)) | inr gt ↦ lit_up y x p gt ∙ sym (ap opposite_lit (lit_down x y p gt)) ]
  ]
  lit_of-opposite Sets (Above x y p) h = absurd (true≢false (sym h))

  pub literal_at-not : (k : Kind) (v : ℕ) (sign : Bool) → literal_at size k v (not sign) ≡ opposite_of (literal_at size k v sign)
  literal_at-not Choice v true = refl
  literal_at-not Choice v false = refl
  literal_at-not Ranking v true = refl
  literal_at-not Ranking v false = refl
  literal_at-not Sets v true = refl
  literal_at-not Sets v false = refl

  -- ---- from literals to variables

  in_winner : (x p : ℕ) → (nat_lt x size.alternatives && nat_lt p (sort_count size Profile)) ≡ true → (1 ≤ p * size.alternatives + x + 1) × (p * size.alternatives + x + 1 ≤ sort_count size Profile * size.alternatives)
  in_winner x p h =
      let e = winner_in size x p h in
      (omega arith, omega (arith, mul-add-lt p size.alternatives x (sort_count size Profile) e.1 e.0, mul_comm size.alternatives (sort_count size Profile)))

  winner-in : (l : Literal) → is_of_winner size l ≡ true → (1 ≤ (lit_of size l).variable) × ((lit_of size l).variable ≤ sort_count size Profile * size.alternatives)
  winner-in (Wins x p) h = in_winner x p h
  winner-in (Loses x p) h = in_winner x p h
  winner-in (Above x y p) h = absurd (true≢false (sym h))

  -- the variable of a literal of the size is one of the study
  lit-in : (k : Kind) (l : Literal) → is_literal_of size k l ≡ true → (1 ≤ (lit_of size l).variable) × ((lit_of size l).variable ≤ sort_count size Profile * bits k size.alternatives)
  lit-in Choice l h = winner-in l h
  lit-in Ranking (Wins x p) h = absurd (true≢false (sym h))
  lit-in Ranking (Loses x p) h = absurd (true≢false (sym h))
  lit-in Ranking (Above x y p) h =
      let r = ranking_in size x y p h in
      elim (cases_order x y) [
        | inl e ↦ absurd (both_ways _ r.2 (eq-eqb x y e))
        | inr o ↦ elim o [
          | inl lt ↦ subst (λ (s : Signed). (1 ≤ s.variable) × (s.variable ≤ sort_count size Profile * length (pairs size.alternatives))) (sym (lit_up x y p lt)) (in_ranking x y p lt r.1 r.3)
          | inr gt ↦ subst (λ (s : Signed). (1 ≤ s.variable) × (s.variable ≤ sort_count size Profile * length (pairs size.alternatives))) (sym (lit_down x y p gt)) (in_ranking y x p gt r.0 r.3)
        ]
      ]
    where
      in_ranking : (a b p : ℕ) → a < b → b < size.alternatives → p < sort_count size Profile → (1 ≤ p * length (pairs size.alternatives) + 1 + pair_place size.alternatives a b) × (p * length (pairs size.alternatives) + 1 + pair_place size.alternatives a b ≤ sort_count size Profile * length (pairs size.alternatives))
      in_ranking a b p lt in_b lp =
          let c = length (pairs size.alternatives) in
          let f : pair_place size.alternatives a b < c = (pair_found size.alternatives a b lt in_b).0 in
          (omega arith, omega (arith, mul-add-lt p c (pair_place size.alternatives a b) (sort_count size Profile) lp f, mul_comm c (sort_count size Profile)))
  lit-in Sets l h = winner-in l h

  literal-winner : (x p : ℕ) (sign : Bool) → x < size.alternatives → winner_at size.alternatives (p * size.alternatives + x + 1 - 1) sign ≡ cond sign (Wins x p) (Loses x p)
  literal-winner x p sign lt =
      let e = split_at p size.alternatives x (p * size.alternatives + x + 1 - 1) lt (omega arith) in
      ap₂ (λ (a b : ℕ). cond sign (Wins a b) (Loses a b)) e.1 e.0

  literal-ranking : (a b p : ℕ) (sign : Bool) → a < b → b < size.alternatives → literal_at size Ranking (p * length (pairs size.alternatives) + 1 + pair_place size.alternatives a b - 1) sign ≡ cond sign (Above a b p) (Above b a p)
  literal-ranking a b p sign lt in_b =
      let n = length (pairs size.alternatives) in
      let found = pair_found size.alternatives a b lt in_b in
      let e = split_at p n (pair_place size.alternatives a b) (p * n + 1 + pair_place size.alternatives a b - 1) found.0 (omega arith) in
      let pair = and_parts _ _ found.1 in
      ap₂ (λ (q k : ℕ). cond sign (Above (pair_at size.alternatives k).0 (pair_at size.alternatives k).1 q) (Above (pair_at size.alternatives k).1 (pair_at size.alternatives k).0 q)) e.0 e.1
      ∙ ap₂ (λ (x y : ℕ). cond sign (Above x y p) (Above y x p)) (eqb-true _ _ pair.0) (eqb-true _ _ pair.1)

  winner-lit_of : (l : Literal) → is_of_winner size l ≡ true → winner_at size.alternatives ((lit_of size l).variable - 1) (lit_of size l).positive ≡ l
  winner-lit_of (Wins x p) h = literal-winner x p true (winner_in size x p h).0
  winner-lit_of (Loses x p) h = literal-winner x p false (winner_in size x p h).0
  winner-lit_of (Above x y p) h = absurd (true≢false (sym h))

  pub literal-lit_of : (k : Kind) (l : Literal) → is_literal_of size k l ≡ true → literal_at size k ((lit_of size l).variable - 1) (lit_of size l).positive ≡ l
  literal-lit_of Choice l h = winner-lit_of l h
  literal-lit_of Ranking (Wins x p) h = absurd (true≢false (sym h))
  literal-lit_of Ranking (Loses x p) h = absurd (true≢false (sym h))
  literal-lit_of Ranking (Above x y p) h =
      let r = ranking_in size x y p h in
      elim (cases_order x y) [
        | inl e ↦ absurd (both_ways _ r.2 (eq-eqb x y e))
        | inr other ↦ elim other [
          | inl lt ↦ ap (λ (s : Signed). literal_at size Ranking (s.variable - 1) s.positive) (lit_up x y p lt) ∙ literal-ranking x y p true lt r.1
          | inr gt ↦ ap (λ (s : Signed). literal_at size Ranking (s.variable - 1) s.positive) (lit_down x y p gt) ∙ literal-ranking y x p false gt r.0
        ]
      ]
  literal-lit_of Sets l h = winner-lit_of l h

  -- literals of one variable and sign are one
  pub lit_of-equal : (a b : Literal) → is_literal size a ≡ true → is_literal size b ≡ true → same_lit (lit_of size a) (lit_of size b) ≡ true → a ≡ b
  lit_of-equal a b in_a in_b same = sym (literal-lit_of size.kind a in_a) ∙ ap (literal_of size) (same_lit-equal _ _ same) ∙ literal-lit_of size.kind b in_b

  -- a literal whose variable and sign are known is known
  pub known_from : (known : List Literal) (l : Literal) → list_all (is_literal size) known ≡ true → is_literal size l ≡ true → has_lit (map (lit_of size) known) (lit_of size l) ≡ true → has known l ≡ true
  known_from [] l all in_l h = absurd (true≢false (sym h))
  known_from (k ∷ known) l all in_l h =
      let e = and_parts (is_literal size k) (list_all (is_literal size) known) all in
      elim (or_cases (same_lit (lit_of size l) (lit_of size k)) (has_lit (map (lit_of size) known) (lit_of size l)) h) [
        | inl same ↦ or_left _ _ (subst (λ b. same_literal l b ≡ true) (lit_of-equal l k in_l e.0 same) (same_literal-refl l))
        | inr later ↦ or_right _ _ (known_from known l e.1 in_l later)
      ]

  -- ---- from variables to literals

  winner_right : (v : ℕ) (sign : Bool) → v < sort_count size Profile * size.alternatives → is_of_winner size (winner_at size.alternatives v sign) ≡ true
  winner_right v sign lt =
      let m = size.alternatives in
      let positive : 0 < m = positive_right _ m v lt in
      let h : (nat_lt (v % m) m && nat_lt (v / m) (sort_count size Profile)) ≡ true = winner_literal size (v % m) (v / m) (mod_below v m positive) (div_below v m _ positive lt) in
      elim sign as (λ s. is_of_winner size (winner_at size.alternatives v s) ≡ true) [ true ↦ h | false ↦ h ]

  literal_right : (k : Kind) (v : ℕ) (sign : Bool) → v < sort_count size Profile * bits k size.alternatives → is_literal_of size k (literal_at size k v sign) ≡ true
  literal_right Choice v sign lt = winner_right v sign lt
  literal_right Ranking v sign lt =
      let m = size.alternatives in
      let c = length (pairs m) in
      let positive : 0 < c = positive_right _ c v lt in
      let r = pair_rises m (v % c) (mod_below v c positive) in
      let x = (pair_at m (v % c)).0 in
      let y = (pair_at m (v % c)).1 in
      let in_x : x < m = omega (arith, r.0, r.1) in
      let in_p : v / c < sort_count size Profile = div_below v c _ positive lt in
      let d = unequal x y r.0 in
      elim sign as (λ s. is_literal_of size Ranking (literal_at size Ranking v s) ≡ true) [
        | true ↦ ranking_literal size x y (v / c) in_x r.1 d.0 in_p
        | false ↦ ranking_literal size y x (v / c) r.1 in_x d.1 in_p
      ]
  literal_right Sets v sign lt = winner_right v sign lt

  lit_of_winner : (v : ℕ) (sign : Bool) → lit_of size (winner_at size.alternatives v sign) ≡ record { variable = v + 1; positive = sign }
  lit_of_winner v sign =
      let m = size.alternatives in
      let e : v / m * m + v % m + 1 ≡ v + 1 = ap (λ (x : ℕ). x + 1) (div-add-mod' v m) in
      elim sign as (λ s. lit_of size (winner_at size.alternatives v s) ≡ record { variable = v + 1; positive = s }) [
        | true ↦ ap (λ (x : ℕ). let l : Signed = record { variable = x; positive = true } in l) e
        | false ↦ ap (λ (x : ℕ). let l : Signed = record { variable = x; positive = false } in l) e
      ]

  lit_of_literal : (k : Kind) (v : ℕ) (sign : Bool) → v < sort_count size Profile * bits k size.alternatives → lit_of size (literal_at size k v sign) ≡ record { variable = v + 1; positive = sign }
  lit_of_literal Choice v sign lt = lit_of_winner v sign
  lit_of_literal Ranking v sign lt =
      let m = size.alternatives in
      let c = length (pairs m) in
      let positive : 0 < c = positive_right _ c v lt in
      let in_c : v % c < c = mod_below v c positive in
      let r = pair_rises m (v % c) in_c in
      let x = (pair_at m (v % c)).0 in
      let y = (pair_at m (v % c)).1 in
      let e : v / c * c + 1 + pair_place m x y ≡ v + 1 = omega (arith, div-add-mod' v c, place_of_pair m (v % c) in_c) in
      elim sign as (λ s. lit_of size (literal_at size Ranking v s) ≡ record { variable = v + 1; positive = s }) [
        | true ↦ lit_up x y (v / c) r.0 ∙ ap (λ (z : ℕ). let l : Signed = record { variable = z; positive = true } in l) e
        | false ↦ lit_down y x (v / c) r.0 ∙ ap (λ (z : ℕ). let l : Signed = record { variable = z; positive = false } in l) e
      ]
  lit_of_literal Sets v sign lt = lit_of_winner v sign

  -- ---- the variables of a profile

  winner-at : (l : Literal) → is_of_winner size l ≡ true → (profile_of l * size.alternatives + 1 ≤ (lit_of size l).variable) × ((lit_of size l).variable ≤ (profile_of l + 1) * size.alternatives)
  winner-at (Wins x p) h = let e = winner_in size x p h in (omega arith, omega (arith, add-mul p 1 size.alternatives))
  winner-at (Loses x p) h = let e = winner_in size x p h in (omega arith, omega (arith, add-mul p 1 size.alternatives))
  winner-at (Above x y p) h = absurd (true≢false (sym h))

  pub lit-at : (k : Kind) (l : Literal) → is_literal_of size k l ≡ true → (profile_of l * bits k size.alternatives + 1 ≤ (lit_of size l).variable) × ((lit_of size l).variable ≤ (profile_of l + 1) * bits k size.alternatives)
  lit-at Choice l h = winner-at l h
  lit-at Ranking (Wins x p) h = absurd (true≢false (sym h))
  lit-at Ranking (Loses x p) h = absurd (true≢false (sym h))
  lit-at Ranking (Above x y p) h =
      let r = ranking_in size x y p h in
      elim (cases_order x y) [
        | inl e ↦ absurd (both_ways _ r.2 (eq-eqb x y e))
        | inr o ↦ elim o [
          | inl lt ↦ subst (λ (s : Signed). (p * length (pairs size.alternatives) + 1 ≤ s.variable) × (s.variable ≤ (p + 1) * length (pairs size.alternatives))) (sym (lit_up x y p lt)) (in_profile x y lt r.1)
          | inr gt ↦ subst (λ (s : Signed). (p * length (pairs size.alternatives) + 1 ≤ s.variable) × (s.variable ≤ (p + 1) * length (pairs size.alternatives))) (sym (lit_down x y p gt)) (in_profile y x gt r.0)
        ]
      ]
    where
      in_profile : (a b : ℕ) → a < b → b < size.alternatives → (p * length (pairs size.alternatives) + 1 ≤ p * length (pairs size.alternatives) + 1 + pair_place size.alternatives a b) × (p * length (pairs size.alternatives) + 1 + pair_place size.alternatives a b ≤ (p + 1) * length (pairs size.alternatives))
      in_profile a b lt in_b =
          let c = length (pairs size.alternatives) in
          let f : pair_place size.alternatives a b < c = (pair_found size.alternatives a b lt in_b).0 in
          (omega arith, omega (arith, add-mul p 1 c))
  lit-at Sets l h = winner-at l h

  profile_at_winner : (p v : ℕ) (sign : Bool) → p * size.alternatives ≤ v → v < (p + 1) * size.alternatives → profile_of (winner_at size.alternatives v sign) ≡ p
  profile_at_winner p v sign low high =
      let e = quotient p size.alternatives v low high in elim sign as (λ s. profile_of (winner_at size.alternatives v s) ≡ p) [ true ↦ e | false ↦ e ]

  profile_at : (k : Kind) (p v : ℕ) (sign : Bool) → p * bits k size.alternatives ≤ v → v < (p + 1) * bits k size.alternatives → profile_of (literal_at size k v sign) ≡ p
  profile_at Choice p v sign low high = profile_at_winner p v sign low high
  profile_at Ranking p v sign low high =
      let e = quotient p (length (pairs size.alternatives)) v low high in elim sign as (λ s. profile_of (literal_at size Ranking v s) ≡ p) [ true ↦ e | false ↦ e ]
  profile_at Sets p v sign low high = profile_at_winner p v sign low high

pub are_variables : (size : Extent) → AreVariables size
are_variables size = record {
  in_range = lit-in size size.kind;
  literal = λ s low high. literal_right size size.kind (s.variable - 1) s.positive (omega (arith, low, high));
  of_literal = λ s low high. lit_of_literal size size.kind (s.variable - 1) s.positive (omega (arith, low, high)) ∙ ap (λ (z : ℕ). let l : Signed = record { variable = z; positive = s.positive } in l) (omega (arith, low));
  of_variable = literal-lit_of size size.kind;
  opposite = lit_of-opposite size size.kind;
  from_profile = lit-at size size.kind;
  to_profile = λ p s low high. profile_at size size.kind p (s.variable - 1) s.positive (omega (arith, low, high)) (omega (arith, low, high));
}
