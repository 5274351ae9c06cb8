-- Instances block by block: those of one value of the outermost universal after those of the value before it.
use Rattle.std.proofs.Common.{◌≡◌, sym, ◌∙◌, ap, ap₂, ℕ, ◌+◌, ◌*◌, ◌-◌, ◌/◌, ◌^◌, ◌<◌, ◌≤◌, true, min, inl, inr, List, [], ◌∷◌, ◌++◌, arith, Option, None, Some, MatchOption, append_assoc, mul-le-mul_right}
use Rattle.std.proofs.Math.Nat.{mul-le-mul_left, div-mul-le_self, div-eq_of_lt}
use Rattle.std.proofs.lemmas.Nat.{div-mul-add, mod-mul-add, div_below}
use Rattle.std.proofs.lemmas.Bool.{cases_lt}
use Rattle.vocab.specs.declared.kinds.Sort.{Sort}
use Rattle.vocab.specs.Formula.{body_of}
use Rattle.vocab.specs.Limits.{bases_of, instance_count}
use Rattle.vocab.specs.Size.{Extent, sort_count}
use Rattle.vocab.specs.Tree.{Tree, All}
use Rattle.meaning.specs.Space.{digits_of}
use Rattle.meaning.specs.Instances.{AreInstancesTrue, IsFirstFailure}
use Rattle.meaning.specs.Truth.{is_true_at}
use Rattle.meaning.proofs.DigitLaws.{positive_right}
use Rattle.worlds.specs.Walk.{is_true_in, AreTrueIn, IsFirstFalseIn}

-- the largest number of 64 bits
abbrev pub most : ℕ
most = 2 ^ 64 - 1

-- a block, its instances cut at the largest number: it begins below the end of the walk, where its value says
pub record IsBlock (n p v start : ℕ) : Type 0 where
  pub value : v < n
  pub some : 0 < p
  pub place : start ≡ v * p

below_factor : (v n p : ℕ) → v * p < n * p → v < n
below_factor v n p h = elim (cases_lt v n) [ inl lt ↦ lt | inr le ↦ absurd (let more = mul-le-mul_right p le in omega arith) ]

pub is_block : (n p v start to block : ℕ) → block ≡ min p most → start ≡ min (v * block) most → start < to → to ≤ most → to ≤ n * p → IsBlock n p v start
is_block n p v start to block cut at lt fits within = elim (cases_lt most p) [
  | inl long ↦
      let is : block ≡ most = omega (arith, long) in
      let times : start ≡ min (v * most) most = rw is at at in
      let first : v ≡ 0 = omega (arith, times) in
      let none : start ≡ 0 = rw first at times in
      let p_some : 0 < p = omega (arith, long) in
      let below : 0 * p < n * p = omega (arith, none) in
      record { value = rw first (below_factor 0 n p below); some = p_some; place = rw (first, none) (omega arith) }
  | inr short ↦
      let is : block ≡ p = omega (arith, short) in
      let times : start ≡ min (v * p) most = rw is at at in
      let below : v * p < n * p = omega (arith, times) in
      record { value = below_factor v n p below; some = positive_right n p (v * p) below; place = omega (arith, times) }
]

-- the block in which a number lies
pub first_block : (n p from to block : ℕ) → block ≡ min p most → from < to → to ≤ most → to ≤ n * p → (0 < block) × (from / block < n) × (from / block * p ≤ from)
first_block n p from to block cut lt fits within =
    let p_some : 0 < p = positive_right n p from (omega arith) in
    elim (cases_lt most p) [
      | inl long ↦
          let is : block ≡ most = omega (arith, long) in
          let some : 0 < block = omega (arith, is) in
          let none : from / block ≡ 0 = div_small from block (omega (arith, is)) in
          let n_some : 0 < n = below_factor 0 n p (omega arith) in
          (some, rw none n_some, rw none (omega arith))
      | inr short ↦
          let is : block ≡ p = omega (arith, short) in
          let some : 0 < block = omega (arith, is) in
          (some, rw is (div_below from p n p_some (omega arith)), rw is (div-mul-le_self from p))
    ]
  where
    div_small : (a b : ℕ) → a < b → a / b ≡ 0
    div_small a b h = div-eq_of_lt h

-- where a block begins at the end of the walk or after it, all blocks before it reach to the end
pub past_the_end : (p v start to block k : ℕ) → block ≡ min p most → start ≡ min (v * block) most → to ≤ start → k < to → k < v * p
past_the_end p v start to block k cut at le lt =
    let less : block ≤ p = omega arith in
    let more : v * block ≤ v * p = mul-le-mul_left v less in
    omega (arith, more)

-- the instances before a block of a value are true
abbrev pub AreTrueBefore : Extent → List ℕ → Tree → List ℕ → (from to p v : ℕ) → Type 0
AreTrueBefore size table f env from to p v = (k : ℕ) → from ≤ k → k < to → k < v * p → is_true_in size table f env k ≡ true

module _ (size : Extent) (table : List ℕ) (s : Sort) (f : Tree) (env : List ℕ) where
  -- an instance of a block is one of the inner formula, at the value of the block
  at_block : (v j : ℕ) → j < instance_count size f → is_true_in size table (All s f) env (v * instance_count size f + j) ≡ is_true_in size table f (env ++ v ∷ []) j
  at_block v j lt =
      let p : ℕ = instance_count size f in
      let digits : digits_of (sort_count size s ∷ bases_of size f) (v * p + j) ≡ v ∷ digits_of (bases_of size f) j
      = ap₂ (λ (a b : ℕ). a ∷ digits_of (bases_of size f) b) (div-mul-add v p j lt) (mod-mul-add v p j lt) in
      ap (λ (ds : List ℕ). is_true_at size table (body_of f) (env ++ ds)) digits
      ∙ ap (λ (e : List ℕ). is_true_at size table (body_of f) e) (sym (append_assoc env (v ∷ []) (digits_of (bases_of size f) j)))

  -- an instance from the start of a block on, before the end of it
  in_block : (n v start k : ℕ) → IsBlock n (instance_count size f) v start → start ≤ k → k - start < instance_count size f → is_true_in size table (All s f) env k ≡ is_true_in size table f (env ++ v ∷ []) (k - start)
  in_block n v start k block le lt =
      let split : k ≡ v * instance_count size f + (k - start) = omega (arith, block.place) in
      ap (is_true_in size table (All s f) env) split ∙ at_block v (k - start) lt

  -- the first false instance of a block is the first of all
  pub found_in_block : (n from to v start block k : ℕ) → IsBlock n (instance_count size f) v start → block ≡ min (instance_count size f) most → AreTrueBefore size table (All s f) env from to (instance_count size f) v
      → IsFirstFalseIn size table f (env ++ v ∷ []) (from - start) (min block (to - start)) k → IsFirstFalseIn size table (All s f) env from to (start + k)
  found_in_block n from to v start block k is cut before found =
      let p : ℕ = instance_count size f in
      let place : start ≡ v * p = is.place in
      let not_before : from - start ≤ k = found.not_before in
      let within : k < min block (to - start) = found.within in
      let inside : k < p = omega arith in
      let rest : start + k - start ≡ k = omega arith in
      let low : start ≤ start + k = omega arith in
      record {
        not_before = omega arith;
        within = omega arith;
        fails = in_block n v start (start + k) is low (rw rest inside) ∙ ap (is_true_in size table f (env ++ v ∷ [])) rest ∙ found.fails;
        first = λ i from_low lower. elim (cases_lt i start) [
          | inl earlier ↦ before i from_low (omega arith) (omega (arith, place))
          | inr after ↦
              let in_p : i - start < p = omega arith in
              in_block n v start i is after in_p ∙ found.first (i - start) (omega arith) (omega arith)
        ];
      }

  -- where a block has no false instance, the walk goes on after it
  pub walk_goes_on : (n from to v start block : ℕ) → IsBlock n (instance_count size f) v start → block ≡ min (instance_count size f) most → to ≤ most → AreTrueBefore size table (All s f) env from to (instance_count size f) v
      → AreTrueIn size table f (env ++ v ∷ []) (from - start) (min block (to - start)) → AreTrueBefore size table (All s f) env from to (instance_count size f) (v + 1)
  walk_goes_on n from to v start block is cut fits before all i low high lower =
      let p : ℕ = instance_count size f in
      let place : start ≡ v * p = is.place in
      let next : (v + 1) * p ≡ v * p + p = omega arith in
      elim (cases_lt i start) [
        | inl earlier ↦ before i low high (omega (arith, place))
        | inr after ↦
            let in_p : i - start < p = omega (arith, place, next) in
            in_block n v start i is after in_p ∙ all (i - start) (omega arith) (omega arith)
      ]

-- of a sentence, under no values, these are its instances
pub of_sentence : (size : Extent) (table : List ℕ) (f : Tree) (from to : ℕ) (r : Option ℕ) → MatchOption r (AreTrueIn size table f [] from to) (IsFirstFalseIn size table f [] from to)
    → MatchOption r (AreInstancesTrue size table f from to) (IsFirstFailure size table f from to)
of_sentence size table f from to None h = h
of_sentence size table f from to (Some k) h = record { not_before = h.not_before; within = h.within; fails = h.fails; first = h.first }
