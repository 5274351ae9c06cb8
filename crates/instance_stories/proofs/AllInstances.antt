-- The instances of all axioms rise, and each that is present is among them.
use mathlib.Core.Bool.{or_assoc}
use Rattle.std.proofs.Common.{◌≡◌, refl, sym, ◌∙◌, ap, ap₂, subst, ℕ, zero, suc, ◌+◌, ◌*◌, ◌-◌, ◌/◌, ◌%◌, ◌<◌, ◌≤◌, Bool, true, false, ◌||◌, nat_eq, inl, inr, List, [], ◌∷◌, ◌++◌, map, filter, length, arith, Option, Some, None, true≢false, eq-eqb, eqb-true, ltb-true, sum_by}
use Rattle.std.specs.Prelude.{if◌then◌else◌, nat_lt, slice_get}
use Rattle.std.specs.List.{flat_map, list_all}
use Rattle.std.specs.Option.{option_map_or}
use Rattle.std.proofs.lemmas.Bool.{and_parts, cases_lt, or_cases, or_left, or_right}
use Rattle.std.proofs.lemmas.List.{map-append}
use Rattle.std.proofs.lemmas.List.Sums.{sum_by-cons}
use Rattle.std.proofs.lemmas.Nat.{div-mul-add, mod-mul-add}
use Rattle.vocab.specs.Limits.{instance_count}
use Rattle.vocab.specs.Study.{Question, IsStudy}
use Rattle.vocab.specs.Titled.{Titled}
use Rattle.meaning.specs.Space.{up_from, below}
use Rattle.grounding.specs.Rising.{RisesFrom, includes}
use Rattle.grounding.proofs.RisingLaws.{above_not, first_there, rising_same, rises_lower}
use Rattle.sharp_verdicts.specs.declared.instances.Cited.{Cited}
use Rattle.sharp_verdicts.specs.Instances.{count_at, is_present, all_instances}
use Rattle.instance_stories.specs.Codes.{code_of, AreRisingInstances, HaveAxiomRoom}
use Rattle.vocab.proofs.StudyLaws.{few_at}

-- ---- numbers and instances

-- the instance of a number
abbrev pub cited_of : ℕ → Cited
cited_of n = record { «axiom» = n / 4294967296 - 1; number = n % 4294967296 }

-- a small number gives its instance back
pub decoded : (c : Cited) → c.number < 4294967296 → cited_of (code_of c) ≡ c
decoded c lt =
    let q = div-mul-add (c.«axiom» + 1) 4294967296 c.number lt in
    let r = mod-mul-add (c.«axiom» + 1) 4294967296 c.number lt in
    let k : code_of c / 4294967296 - 1 ≡ c.«axiom» = ap (λ (n : ℕ). n - 1) q ∙ omega arith in
    λ i. record { «axiom» = k i; number = r i }

pub all_decoded : (cs : List Cited) → HaveAxiomRoom cs → map cited_of (map code_of cs) ≡ cs
all_decoded [] h = refl
all_decoded (c ∷ cs) h = ap₂ (λ (d : Cited) (ds : List Cited). d ∷ ds) (decoded c h.0) (all_decoded cs h.1)

-- lists that rise and have the same numbers are the same
pub rising_lists : (xs ys : List Cited) → HaveAxiomRoom xs → HaveAxiomRoom ys → AreRisingInstances xs → AreRisingInstances ys → ((k : ℕ) → includes (map code_of xs) k ≡ includes (map code_of ys) k) → xs ≡ ys
rising_lists xs ys sx sy ax ay h = sym (all_decoded xs sx) ∙ ap (map cited_of) (rising_same 0 (map code_of xs) (map code_of ys) ax ay h) ∙ all_decoded ys sy

-- ---- what rises

above_join : (b : ℕ) (xs ys : List ℕ) (m : ℕ) → RisesFrom b xs → b < m → ((k : ℕ) → includes xs k ≡ true → k < m) → ((b' : ℕ) → b' < m → RisesFrom b' ys) → RisesFrom b (xs ++ ys)
above_join b [] ys m h lt small rest = rest b lt
above_join b (x ∷ xs) ys m h lt small rest = (h.0, above_join x xs ys m h.1 (small x (first_there x xs)) (λ k e. small k (or_right (nat_eq k x) (includes xs k) e)) rest)

pub filter_rises : (t : Cited → Bool) (b : ℕ) (cs : List Cited) → RisesFrom b (map code_of cs) → RisesFrom b (map code_of (filter t cs))
filter_rises t b [] h = record {}
filter_rises t b (c ∷ cs) h = by (t c) (filter_rises t (code_of c) cs h.1)
  where
    by : (r : Bool) → RisesFrom (code_of c) (map code_of (filter t cs)) → RisesFrom b (map code_of (if r then c ∷ filter t cs else filter t cs))
    by true ih = (h.0, ih)
    by false ih = rises_lower b (code_of c) (map code_of (filter t cs)) (omega (arith, h.0)) ih

pub filter_small : (t : Cited → Bool) (cs : List Cited) → HaveAxiomRoom cs → HaveAxiomRoom (filter t cs)
filter_small t [] h = tt
filter_small t (c ∷ cs) h = by (t c) (filter_small t cs h.1)
  where
    by : (r : Bool) → HaveAxiomRoom (filter t cs) → HaveAxiomRoom (if r then c ∷ filter t cs else filter t cs)
    by true ih = (h.0, ih)
    by false ih = ih

-- ---- the instances of one axiom

abbrev at : ℕ → ℕ → Cited
at k n = record { «axiom» = k; number = n }

block_rises : (b k from n : ℕ) → b < (k + 1) * 4294967296 + from → RisesFrom b (map code_of (map (at k) (up_from from n)))
block_rises b k from zero lt = record {}
block_rises b k from (suc n) lt = (lt, block_rises ((k + 1) * 4294967296 + from) k (suc from) n (omega arith))

block_below : (k from n c : ℕ) → includes (map code_of (map (at k) (up_from from n))) c ≡ true → c < (k + 1) * 4294967296 + (from + n)
block_below k from zero c h = absurd cc
block_below k from (suc n) c h = elim (or_cases (nat_eq c ((k + 1) * 4294967296 + from)) (includes (map code_of (map (at k) (up_from (suc from) n))) c) h) [
  | inl e ↦ let same = eqb-true c ((k + 1) * 4294967296 + from) e in omega (arith, same)
  | inr e ↦ let ih = block_below k (suc from) n c e in omega (arith, ih)
]

block_has : (k from n j : ℕ) → j < n → includes (map code_of (map (at k) (up_from from n))) (code_of (at k (from + j))) ≡ true
block_has k from zero j lt = absurd (omega arith)
block_has k from (suc n) zero lt = or_left _ _ (eq-eqb (code_of (at k (from + 0))) (code_of (at k from)) (omega arith))
block_has k from (suc n) (suc j) lt =
    let over : suc from + j ≡ from + suc j = omega arith in
    or_right (nat_eq (code_of (at k (from + suc j))) (code_of (at k from))) _
    (subst (λ (x : ℕ). includes (map code_of (map (at k) (up_from (suc from) n))) (code_of (at k x)) ≡ true) over (block_has k (suc from) n j (omega (arith, lt))))

block_small : (k from n : ℕ) → from + n ≤ 4294967296 → HaveAxiomRoom (map (at k) (up_from from n))
block_small k from zero le = tt
block_small k from (suc n) le = (omega (arith, le), block_small k (suc from) n (omega (arith, le)))

pub small_join : (xs ys : List Cited) → HaveAxiomRoom xs → HaveAxiomRoom ys → HaveAxiomRoom (xs ++ ys)
small_join [] ys h k = k
small_join (x ∷ xs) ys h k = (h.0, small_join xs ys h.1 k)

pub has-append : (xs ys : List ℕ) (k : ℕ) → includes (xs ++ ys) k ≡ (includes xs k || includes ys k)
has-append [] ys k = refl
has-append (x ∷ xs) ys k = ap (λ b. nat_eq k x || b) (has-append xs ys k) ∙ sym (or_assoc (nat_eq k x) (includes xs k) (includes ys k))

-- ---- those of all axioms

module _ (study : Question) (few : (k : ℕ) → count_at study k ≤ 4294967296) where
  abbrev block : ℕ → List Cited
  block k = map (at k) (below (count_at study k))

  blocks_rise : (b a n : ℕ) → b < (a + 1) * 4294967296 → RisesFrom b (map code_of (flat_map block (up_from a n)))
  blocks_rise b a zero lt = record {}
  blocks_rise b a (suc n) lt =
      let most = few a in
      subst (RisesFrom b) (sym (map-append code_of (block a) (flat_map block (up_from (suc a) n))))
      (above_join b (map code_of (block a)) (map code_of (flat_map block (up_from (suc a) n))) ((suc a + 1) * 4294967296)
      (block_rises b a 0 (count_at study a) (omega (arith, lt))) (omega (arith, lt)) (λ k h. let below_end = block_below a 0 (count_at study a) k h in omega (arith, below_end, most))
      (λ b' lt'. blocks_rise b' (suc a) n lt'))

  blocks_small : (a n : ℕ) → HaveAxiomRoom (flat_map block (up_from a n))
  blocks_small a zero = tt
  blocks_small a (suc n) = small_join (block a) (flat_map block (up_from (suc a) n)) (block_small a 0 (count_at study a) (let most = few a in omega (arith, most))) (blocks_small (suc a) n)

  pub all_rise : AreRisingInstances (all_instances study)
  all_rise = blocks_rise 0 0 (length study.axioms) (omega arith)

  pub all_small : HaveAxiomRoom (all_instances study)
  all_small = blocks_small 0 (length study.axioms)

  blocks_have : (a n k j : ℕ) → k < n → j < count_at study (a + k) → includes (map code_of (flat_map block (up_from a n))) (code_of (at (a + k) j)) ≡ true
  blocks_have a zero k j lt in_k = absurd (omega arith)
  blocks_have a (suc n) zero j lt in_k =
      let same : a + 0 ≡ a = omega arith in
      ap (λ xs. includes xs (code_of (at (a + 0) j))) (map-append code_of (block a) (flat_map block (up_from (suc a) n))) ∙ has-append (map code_of (block a)) (map code_of (flat_map block (up_from (suc a) n))) (code_of (at (a + 0) j))
      ∙ or_left _ _ (subst (λ (x : ℕ). includes (map code_of (block a)) (code_of (at x j)) ≡ true) (sym same) (let z : 0 + j ≡ j = omega arith in subst (λ (x : ℕ). includes (map code_of (block a)) (code_of (at a x)) ≡ true) z (block_has a 0 (count_at study a) j (subst (λ (x : ℕ). j < count_at study x) same in_k))))
  blocks_have a (suc n) (suc k) j lt in_k =
      let over : suc a + k ≡ a + suc k = omega arith in
      ap (λ xs. includes xs (code_of (at (a + suc k) j))) (map-append code_of (block a) (flat_map block (up_from (suc a) n))) ∙ has-append (map code_of (block a)) (map code_of (flat_map block (up_from (suc a) n))) (code_of (at (a + suc k) j))
      ∙ or_right (includes (map code_of (block a)) (code_of (at (a + suc k) j))) _
      (subst (λ (x : ℕ). includes (map code_of (flat_map block (up_from (suc a) n))) (code_of (at x j)) ≡ true) over (blocks_have (suc a) n k j (omega (arith, lt)) (subst (λ (x : ℕ). j < count_at study x) (sym over) in_k)))

  pub all_have : (c : Cited) → is_present study c ≡ true → includes (map code_of (all_instances study)) (code_of c) ≡ true
  all_have c h =
      let e = and_parts (nat_lt c.«axiom» (length study.axioms)) (nat_lt c.number (count_at study c.«axiom»)) h in
      let same : 0 + c.«axiom» ≡ c.«axiom» = omega arith in
      subst (λ (x : ℕ). includes (map code_of (all_instances study)) (code_of (at x c.number)) ≡ true) same
      (blocks_have 0 (length study.axioms) c.«axiom» c.number (ltb-true c.«axiom» (length study.axioms) e.0) (subst (λ (x : ℕ). c.number < count_at study x) (sym same) (ltb-true c.number (count_at study c.«axiom») e.1)))

-- ---- within a study

-- a study has few instances of each axiom
count_few : (study : Question) → IsStudy study → (k : ℕ) (o : Option Titled) → slice_get study.axioms k ≡ o → option_map_or (λ (a : Titled). instance_count study.size a.sentence) o 0 ≤ 40000000
count_few study taken k None e = omega arith
count_few study taken k (Some a) e = few_at study k a taken e

pub counts_few : (study : Question) → IsStudy study → (k : ℕ) → count_at study k ≤ 4294967296
counts_few study taken k = let few = count_few study taken k (slice_get study.axioms k) refl in omega (arith, few)

pub counts_within : (study : Question) → IsStudy study → (k : ℕ) → count_at study k ≤ 40000000
counts_within study taken k = count_few study taken k (slice_get study.axioms k) refl

-- present instances are small
pub present_small : (study : Question) → IsStudy study → (cs : List Cited) → list_all (is_present study) cs ≡ true → HaveAxiomRoom cs
present_small study taken [] h = tt
present_small study taken (c ∷ cs) h =
    let e = and_parts (is_present study c) (list_all (is_present study) cs) h in
    let lt = ltb-true c.number (count_at study c.«axiom») (and_parts (nat_lt c.«axiom» (length study.axioms)) (nat_lt c.number (count_at study c.«axiom»)) e.0).1 in
    let few = counts_few study taken c.«axiom» in
    (omega (arith, lt, few), present_small study taken cs e.1)

-- ---- sums over rising numbers

-- a rising list whose numbers all stand in another one sums up to no more
pub sum_within : (f : ℕ → ℕ) (n : ℕ) (xs ys : List ℕ) → RisesFrom n xs → RisesFrom n ys → ((k : ℕ) → includes xs k ≡ true → includes ys k ≡ true) → sum_by f xs ≤ sum_by f ys
sum_within f n [] ys ax ay h = omega arith
sum_within f n (x ∷ xs) [] ax ay h = absurd (true≢false (sym (h x (first_there x xs))))
sum_within f n (x ∷ xs) (y ∷ ys) ax ay h = by (nat_eq x y) refl (λ a s. sum_within f x xs ys ax.1 a s) (λ lt s. sum_within f y (x ∷ xs) ys (lt, ax.1) ay.1 s)
  where
    -- what stands in the rest of the one stands in the rest of the other
    later : x ≡ y → (k : ℕ) → includes xs k ≡ true → includes ys k ≡ true
    later same k e = elim (or_cases (nat_eq k y) (includes ys k) (h k (or_right (nat_eq k x) (includes xs k) e))) [
      | inl t ↦
          let is = eqb-true k y t in
          let low : k ≤ x = omega (arith, is, same) in
          absurd (true≢false (sym e ∙ above_not x k xs ax.1 low))
      | inr t ↦ t
    ]

    -- where the first of the other list is not the first of the one
    past : y < x → (k : ℕ) → includes (x ∷ xs) k ≡ true → includes ys k ≡ true
    past lt k e = elim (or_cases (nat_eq k y) (includes ys k) (h k e)) [
      | inl t ↦
          let is = eqb-true k y t in
          let low : k ≤ y = omega (arith, is) in
          absurd (true≢false (sym e ∙ above_not y k (x ∷ xs) (lt, ax.1) low))
      | inr t ↦ t
    ]

    -- the first of the other list is not above it
    first : nat_eq x y ≡ false → y < x
    first e = elim (cases_lt y x) [
      | inl lt ↦ lt
      | inr le ↦ elim (or_cases (nat_eq x y) (includes ys x) (h x (first_there x xs))) [
        | inl t ↦ absurd (true≢false (sym t ∙ e))
        | inr t ↦ absurd (true≢false (sym t ∙ above_not y x ys ay.1 le))
      ]
    ]

    by : (b : Bool) → nat_eq x y ≡ b → (RisesFrom x ys → ((k : ℕ) → includes xs k ≡ true → includes ys k ≡ true) → sum_by f xs ≤ sum_by f ys)
        → (y < x → ((k : ℕ) → includes (x ∷ xs) k ≡ true → includes ys k ≡ true) → sum_by f (x ∷ xs) ≤ sum_by f ys) → sum_by f (x ∷ xs) ≤ sum_by f (y ∷ ys)
    by true e ih skip =
        let same : x ≡ y = eqb-true x y e in
        let less = ih (subst (λ (z : ℕ). RisesFrom z ys) (sym same) ay.1) (later same) in
        let head : f x ≡ f y = ap f same in
        omega (arith, less, head, sum_by-cons f x xs, sum_by-cons f y ys)
    by false e ih skip = let lt = first e in let less = skip lt (past lt) in omega (arith, less, sum_by-cons f y ys)
