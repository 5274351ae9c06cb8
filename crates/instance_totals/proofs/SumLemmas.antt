-- Sums over the instances of an axiom, piece after piece.
use Rattle.std.proofs.Common.{◌≡◌, sym, ◌∙◌, ap, ap₂, ℕ, zero, suc, ◌+◌, ◌-◌, ◌*◌, ◌^◌, ◌<◌, ◌≤◌, true, false, min, [], ◌∷◌, ◌++◌, length, arith, Option, Some, sum_by, lt-ltb}
use Rattle.std.specs.Prelude.{nat_lt, slice_get}
use Rattle.std.specs.Option.{option_map_or}
use Rattle.std.proofs.Math.Nat.{suc-mul}
use Rattle.std.proofs.lemmas.Bool.{and_from, ltb-false, or_parts}
use Rattle.std.proofs.lemmas.List.Sums.{sum_by-cons, sum_by_push}
use Rattle.vocab.specs.Limits.{instance_count}
use Rattle.vocab.specs.Range.{up_from}
use Rattle.vocab.specs.Size.{Extent}
use Rattle.vocab.specs.Study.{Question, IsStudy}
use Rattle.vocab.specs.Titled.{Titled}
use Rattle.meaning.specs.declared.clauses.Counts.{Counts}
use Rattle.meaning.specs.Measure.{measure_of}
use Rattle.meaning.specs.StudyClauses.{instance_of}
use Rattle.clause_form.specs.Refusals.{counts_at}
use Rattle.clause_form.specs.Wide.{is_wide}
use Rattle.sharp_verdicts.specs.declared.instances.Cited.{Cited}
use Rattle.sharp_verdicts.specs.Instances.{count_at, is_present}
use Rattle.sharp_verdicts.specs.Totals.{counts_of_instance}
use Rattle.instance_stories.proofs.AllInstances.{counts_within}
use Rattle.instance_totals.specs.Sums.{instance_at, piece_start, piece_end, counts_from, AreAllNarrow}

-- ---- sums over consecutive numbers

up_more : (a n : ℕ) → up_from a (n + 1) ≡ up_from a n ++ (a + n) ∷ []
up_more a zero = let e : a ≡ a + 0 = omega arith in ap (λ (x : ℕ). x ∷ []) e
up_more a (suc n) =
    let up : suc n + 1 ≡ suc (n + 1) = omega arith in
    let over : suc a + n ≡ a + suc n = omega arith in
    ap (up_from a) up ∙ ap (λ xs. a ∷ xs) (up_more (suc a) n ∙ ap (λ (x : ℕ). up_from (suc a) n ++ x ∷ []) over)

module _ (f : ℕ → ℕ) where
  -- one more
  pub sum_more : (a n : ℕ) → sum_by f (up_from a (n + 1)) ≡ sum_by f (up_from a n) + f (a + n)
  sum_more a n = ap (sum_by f) (up_more a n) ∙ sum_by_push f (up_from a n) (a + n)

  -- and more of them
  pub sum_join : (a n m : ℕ) → sum_by f (up_from a (n + m)) ≡ sum_by f (up_from a n) + sum_by f (up_from (a + n) m)
  sum_join a n zero = let e : n + 0 ≡ n = omega arith in let s : sum_by f (up_from a n) ≡ sum_by f (up_from a n) + 0 = omega arith in ap (λ (k : ℕ). sum_by f (up_from a k)) e ∙ s
  sum_join a n (suc m) =
      let up : n + suc m ≡ (n + m) + 1 = omega arith in
      let end : suc m ≡ m + 1 = omega arith in
      let ih = sum_join a n m in
      let left = sum_more a (n + m) in
      let right = sum_more (a + n) m in
      let over : a + (n + m) ≡ a + n + m = omega arith in
      let same = ap f over in
      let whole : sum_by f (up_from a ((n + m) + 1)) ≡ sum_by f (up_from a n) + sum_by f (up_from (a + n) (m + 1)) = omega (arith, ih, left, right, same) in
      ap (λ (k : ℕ). sum_by f (up_from a k)) up ∙ whole ∙ ap (λ (k : ℕ). sum_by f (up_from a n) + sum_by f (up_from (a + n) k)) (sym end)

  -- where each is at most m
  pub sum_few : (m a n : ℕ) → ((k : ℕ) → a ≤ k → k < a + n → f k ≤ m) → sum_by f (up_from a n) ≤ n * m
  sum_few m a zero h = omega arith
  sum_few m a (suc n) h =
      let here = h a (omega arith) (omega arith) in
      let rest = sum_few m (suc a) n (λ k low high. h k (omega (arith, low)) (omega (arith, high))) in
      let cons = sum_by-cons f a (up_from (suc a) n) in
      let times = suc-mul n m in
      omega (arith, here, rest, cons, times)

-- ---- counts

-- what is not too wide
pub narrow_counts : (counts : Counts) → is_wide counts ≡ false → (counts.clauses ≤ 100000) × (counts.literals ≤ 4000000)
narrow_counts counts h =
    let e = or_parts (nat_lt 100000 counts.clauses) (nat_lt 4000000 counts.literals) h in
    let few = ltb-false 100000 counts.clauses e.0 in
    let small = ltb-false 4000000 counts.literals e.1 in
    (omega (arith, few), omega (arith, small))

-- how many instances an axiom has
pub count_is : (study : Question) (size : Extent) → study.size ≡ size → IsStudy study → (place : ℕ) (a : Titled) → slice_get study.axioms place ≡ Some a → (count : ℕ) → count ≡ min (instance_count size a.sentence) (2 ^ 64 - 1) → count ≡ count_at study place
count_is study size same taken place a at count cut =
    let here : count_at study place ≡ instance_count study.size a.sentence = ap (λ (o : Option Titled). option_map_or (λ (b : Titled). instance_count study.size b.sentence) o 0) at in
    let sizes : instance_count study.size a.sentence ≡ instance_count size a.sentence = ap (λ (e : Extent). instance_count e a.sentence) same in
    let few = counts_within study taken place in
    omega (arith, cut, here, sizes, few)

module _ (study : Question) where
  -- the counts of an instance of an axiom that is there
  pub counted : (c : Cited) (a : Titled) → slice_get study.axioms c.«axiom» ≡ Some a → counts_of_instance study c ≡ measure_of (instance_of study.size a.sentence c.number)
  counted c a at = ap (λ (o : Option Titled). option_map_or (λ (b : Titled). counts_at study.size study.axioms b.sentence c.number) o (record { clauses = 0; literals = 0 })) at

  module _ (place : ℕ) where
    abbrev cl : ℕ → ℕ
    cl k = (counts_of_instance study (instance_at place k)).clauses

    abbrev li : ℕ → ℕ
    li k = (counts_of_instance study (instance_at place k)).literals

    -- where no instance is too wide
    pub counts_few : AreAllNarrow study → place < length study.axioms → (from n : ℕ) → from + n ≤ count_at study place → ((counts_from study place from n).clauses ≤ n * 100000) × ((counts_from study place from n).literals ≤ n * 4000000)
    counts_few narrow there from n within =
        (sum_few cl 100000 from n (λ k low high. (each k (omega (arith, high, within))).0), sum_few li 4000000 from n (λ k low high. (each k (omega (arith, high, within))).1))
      where
        each : (k : ℕ) → k < count_at study place → (cl k ≤ 100000) × (li k ≤ 4000000)
        each k lt = narrow_counts (counts_of_instance study (instance_at place k)) (narrow (instance_at place k) (is_there k lt))
          where
            is_there : (k : ℕ) → k < count_at study place → is_present study (instance_at place k) ≡ true
            is_there k lt = and_from _ _ (lt-ltb _ _ there) (lt-ltb _ _ lt)

    -- one instance more
    pub one_more : (from k : ℕ) (here : Counts) → from ≤ k → here ≡ counts_of_instance study (instance_at place k)
        → ((counts_from study place from (k + 1 - from)).clauses ≡ (counts_from study place from (k - from)).clauses + here.clauses) × ((counts_from study place from (k + 1 - from)).literals ≡ (counts_from study place from (k - from)).literals + here.literals)
    one_more from k here le is =
        let n : k + 1 - from ≡ (k - from) + 1 = omega (arith, le) in
        let at : from + (k - from) ≡ k = omega (arith, le) in (
          ap (λ (j : ℕ). sum_by cl (up_from from j)) n ∙ sum_more cl from (k - from) ∙ ap (λ (x : ℕ). sum_by cl (up_from from (k - from)) + x) (ap cl at ∙ ap (λ (c : Counts). c.clauses) (sym is)),
          ap (λ (j : ℕ). sum_by li (up_from from j)) n ∙ sum_more li from (k - from) ∙ ap (λ (x : ℕ). sum_by li (up_from from (k - from)) + x) (ap li at ∙ ap (λ (c : Counts). c.literals) (sym is)),
        )

    -- one piece more
    pub piece_more : (count piece : ℕ) (part : Counts) → piece_start piece ≤ count → part ≡ counts_from study place (piece_start piece) (piece_end count piece - piece_start piece)
        → ((counts_from study place 0 (piece_end count piece)).clauses ≡ (counts_from study place 0 (piece_start piece)).clauses + part.clauses) × ((counts_from study place 0 (piece_end count piece)).literals ≡ (counts_from study place 0 (piece_start piece)).literals + part.literals)
    piece_more count piece part le is =
        let start = piece_start piece in
        let n : piece_end count piece ≡ start + (piece_end count piece - start) = omega (arith, le) in
        let at : 0 + start ≡ start = omega arith in (
          ap (λ (j : ℕ). sum_by cl (up_from 0 j)) n ∙ sum_join cl 0 start (piece_end count piece - start) ∙ ap (λ (x : ℕ). sum_by cl (up_from 0 start) + x) (ap (λ (a : ℕ). sum_by cl (up_from a (piece_end count piece - start))) at ∙ ap (λ (c : Counts). c.clauses) (sym is)),
          ap (λ (j : ℕ). sum_by li (up_from 0 j)) n ∙ sum_join li 0 start (piece_end count piece - start) ∙ ap (λ (x : ℕ). sum_by li (up_from 0 start) + x) (ap (λ (a : ℕ). sum_by li (up_from a (piece_end count piece - start))) at ∙ ap (λ (c : Counts). c.literals) (sym is)),
        )

    -- with one instance more they are few
    pub next_small : AreAllNarrow study → place < length study.axioms → count_at study place ≤ 40000000 → (from k : ℕ) (here : Counts) → from ≤ k → k < count_at study place → here ≡ counts_of_instance study (instance_at place k)
        → ((counts_from study place from (k - from)).clauses + here.clauses ≤ 4000000000000) × ((counts_from study place from (k - from)).literals + here.literals ≤ 160000000000000)
    next_small narrow there few from k here le lt is =
        let more = one_more from k here le is in
        let small = counts_few narrow there from (k + 1 - from) (omega (arith, le, lt)) in
        (omega (arith, more.0, small.0, few, lt), omega (arith, more.1, small.1, few, lt))

    -- and with one piece more
    pub part_small : AreAllNarrow study → place < length study.axioms → count_at study place ≤ 40000000 → (count piece : ℕ) (part : Counts) → count ≤ count_at study place → piece_start piece ≤ count
        → part ≡ counts_from study place (piece_start piece) (piece_end count piece - piece_start piece)
        → ((counts_from study place 0 (piece_start piece)).clauses + part.clauses ≤ 4000000000000) × ((counts_from study place 0 (piece_start piece)).literals + part.literals ≤ 160000000000000)
    part_small narrow there few count piece part within le is =
        let more = piece_more count piece part le is in
        let small = counts_few narrow there 0 (piece_end count piece) (omega (arith, within)) in
        (omega (arith, more.0, small.0, few, within), omega (arith, more.1, small.1, few, within))

    -- all of them
    pub all_small : AreAllNarrow study → place < length study.axioms → count_at study place ≤ 40000000 → (sum : Counts) → sum ≡ counts_from study place 0 (count_at study place) → (sum.clauses ≤ 4000000000000) × (sum.literals ≤ 160000000000000)
    all_small narrow there few sum is =
        let small = counts_few narrow there 0 (count_at study place) (omega arith) in
        let clauses = ap (λ (c : Counts). c.clauses) is in
        let literals = ap (λ (c : Counts). c.literals) is in
        (omega (arith, small.0, few, clauses), omega (arith, small.1, few, literals))

-- counts by their parts
pub counts_same : (a b c d : ℕ) → a ≡ c → b ≡ d → (let x : Counts = record { clauses = a; literals = b } in x) ≡ (let y : Counts = record { clauses = c; literals = d } in y)
counts_same a b c d e f = ap₂ (λ (m n : ℕ). let x : Counts = record { clauses = m; literals = n } in x) e f
