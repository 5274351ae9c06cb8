-- The clauses of instances with their origins, part by part.
use Rattle.std.proofs.Common.{◌≡◌, ◌<◌, ◌≤◌, ◌+◌, ◌-◌, ◌*◌, ◌/◌, ◌%◌, min, ℕ, zero, suc, true, false, List, [], ◌∷◌, ◌++◌, length, map, fold, refl, sym, ap, ap₂, ◌∙◌, if◌then◌else◌, arith, inl, inr, append-nil, Some}
use Rattle.std.specs.Prelude.{nat_lt}
use Rattle.std.specs.List.{flat_map}
use Rattle.std.proofs.lemmas.Bool.{cases_lt}
use Rattle.std.proofs.lemmas.List.Sums.{fold-append}
use Rattle.vocab.specs.Limits.{instance_count}
use Rattle.vocab.specs.Range.{up_from}
use Rattle.vocab.specs.Size.{Extent}
use Rattle.vocab.specs.Titled.{Titled}
use Rattle.vocab.specs.Tree.{Tree}
use Rattle.cnf.specs.Sat.{Clause}
use Rattle.meaning.specs.declared.clauses.Origin.{Origin}
use Rattle.meaning.specs.declared.clauses.Origin.TheVariants.{Frame, Instance}
use Rattle.meaning.specs.StudyClauses.{Sourced, from_axiom, from_instance}
use Rattle.clause_form.specs.Refusals.{is_over_limits}
use Rattle.clause_form.specs.Sources.{clauses_in, origin_of_number, sourced}
use Rattle.grounding.specs.Distinct.{kept_with}
use Rattle.grounding.specs.Parts.{with_origin}
use Rattle.grounding.specs.Pieces.{IsKeptPart, part_end, rows_at, rows_from, sources_at, sources_of, part_start}
use Rattle.grounding.proofs.FirstsLaws.{kept_are_firsts}
use Rattle.grounding.proofs.KeptLaws.{over-as, over-grows}
use Rattle.grounding.proofs.PieceLaws.{rows_from-add}

-- ---- lists of clauses, one after another

pub sourced-both : (cs ds : List Clause) (ms ns : List ℕ) → length ms ≡ length cs → sourced (cs ++ ds) (ms ++ ns) ≡ sourced cs ms ++ sourced ds ns
sourced-both [] ds [] ns e = refl
sourced-both [] ds (m ∷ ms) ns e = absurd (omega arith)
sourced-both (c ∷ cs) ds [] ns e = absurd (omega arith)
sourced-both (c ∷ cs) ds (m ∷ ms) ns e = ap (λ (ss : List Sourced). with_origin c m ∷ ss) (sourced-both cs ds ms ns (omega (arith, e)))

-- clauses of one origin
pub sourced-same : (rows : List Clause) (n : ℕ) (o : Origin) → origin_of_number n ≡ o → sourced rows (map (λ _. n) rows) ≡ map (λ (c : Clause). record { clause = c; origin = o }) rows
sourced-same [] n o e = refl
sourced-same (c ∷ rows) n o e = ap₂ (λ (p : Origin) (ss : List Sourced). record { clause = c; origin = p } ∷ ss) e (sourced-same rows n o e)

origin-same : (rows : List Clause) (n : ℕ) (o : Origin) → origin_of_number n ≡ o → map (λ (c : Clause). with_origin c n) rows ≡ map (λ (c : Clause). record { clause = c; origin = o }) rows
origin-same rows n o e = ap (λ (p : Origin). map (λ (c : Clause). record { clause = c; origin = p }) rows) e

rows-agree : {A : Type 0} (f g : ℕ → List A) (i n : ℕ) → ((k : ℕ) → k < i + n → f k ≡ g k) → rows_from f i n ≡ rows_from g i n
rows-agree f g i zero h = refl
rows-agree f g i (suc n) h = ap₂ (λ r s. r ++ s) (h i (omega arith)) (rows-agree f g (suc i) n (λ k less. h k (omega (arith, less))))

-- ---- origins

pub frame-here : (p : ℕ) → p < 4294967296 → origin_of_number p ≡ Frame p
frame-here p h = ap (λ b. if b then Frame p else Instance (p / 4294967296 - 1) (p % 4294967296)) (let t : nat_lt p 4294967296 ≡ true = grind (arith, h) in t)

instance-here : (n place k : ℕ) → n ≡ (place + 1) * 4294967296 + k → k < 4294967296 → origin_of_number n ≡ Instance place k
instance-here n place k e h =
    let high : 4294967296 ≤ n = omega (arith, e) in
    let first : n / 4294967296 - 1 ≡ place = omega (arith, e, h) in
    let second : n % 4294967296 ≡ k = omega (arith, e, h) in
    ap (λ b. if b then Frame n else Instance (n / 4294967296 - 1) (n % 4294967296)) (let t : nat_lt n 4294967296 ≡ false = grind (arith, high) in t)
    ∙ ap₂ Instance first second

module _ (size : Extent) (sentence : Tree) (base : ℕ) where
  -- the clauses up to a number, and those from there on
  pub sources-add : (from middle to : ℕ) → from ≤ middle → middle ≤ to →
      sources_of size sentence base from to ≡ sources_of size sentence base from middle ++ sources_of size sentence base middle to
  sources-add from middle to low high =
      let whole : to - from ≡ middle - from + (to - middle) = omega (arith, low, high) in
      let there : from + (middle - from) ≡ middle = omega (arith, low) in
      ap (rows_from (sources_at size sentence base) from) whole
      ∙ rows_from-add (sources_at size sentence base) from (middle - from) (to - middle)
      ∙ ap (λ i. rows_from (sources_at size sentence base) from (middle - from) ++ rows_from (sources_at size sentence base) i (to - middle)) there

  -- no clause where the one number is not below the other
  pub sources-none : (from to : ℕ) → to ≤ from → sources_of size sentence base from to ≡ []
  sources-none from to h = ap (rows_from (sources_at size sentence base) from) (let none : to - from ≡ 0 = omega (arith, h) in none)

  -- the clauses of one piece more
  next-piece : (from to piece : ℕ) → from ≤ to →
      sources_of size sentence base from (min (part_start from piece) to) ++ sources_of size sentence base (part_start from piece) (part_end from to piece)
      ≡ sources_of size sentence base from (min (part_start from (piece + 1)) to)
  next-piece from to piece rising = elim (cases_lt to (part_start from piece)) [
    | inl past ↦ (let here : min (part_start from piece) to ≡ min (part_start from (piece + 1)) to = omega (arith, past) in
        let none : part_end from to piece ≤ part_start from piece = omega (arith, past) in
        ap₂ (λ m (ss : List Sourced). sources_of size sentence base from m ++ ss) here (sources-none (part_start from piece) (part_end from to piece) none)
        ∙ append-nil (sources_of size sentence base from (min (part_start from (piece + 1)) to)))
    | inr le ↦ (let here : min (part_start from piece) to ≡ part_start from piece = omega (arith, le) in
        let low : from ≤ part_start from piece = omega arith in
        let high : part_start from piece ≤ part_end from to piece = omega (arith, le) in
        ap (λ m. sources_of size sentence base from m ++ sources_of size sentence base (part_start from piece) (part_end from to piece)) here
        ∙ sym (sources-add from (part_start from piece) (part_end from to piece) low high))
  ]

  -- what is kept with the part of one piece more
  pub next-part : (from to : ℕ) → from ≤ to → (piece : ℕ) (part : List Sourced) (kept : List Sourced) → IsKeptPart size sentence base (part_start from piece) (part_end from to piece) part
      → fold kept_with (fold kept_with kept (sources_of size sentence base from (min (part_start from piece) to))) part
      ≡ fold kept_with kept (sources_of size sentence base from (min (part_start from (piece + 1)) to))
  next-part from to rising piece part kept is =
      let before = sources_of size sentence base from (min (part_start from piece) to) in
      is (fold kept_with kept before)
      ∙ sym (fold-append kept_with kept before (sources_of size sentence base (part_start from piece) (part_end from to piece)))
      ∙ ap (fold kept_with kept) (next-piece from to piece rising)

  -- what is kept with the clauses of one round more
  pub next-round : (from to : ℕ) → from ≤ to
      → fold kept_with (fold kept_with [] (sources_of size sentence base 0 from)) (sources_of size sentence base from to) ≡ fold kept_with [] (sources_of size sentence base 0 to)
  next-round from to rising =
      sym (fold-append kept_with [] (sources_of size sentence base 0 from) (sources_of size sentence base from to))
      ∙ ap (fold kept_with []) (sym (sources-add 0 from to (omega arith) rising))

  -- a list that is over a limit with the clauses up to a number is so with those after it
  pub over-rest : (from middle to : ℕ) (before kept : List Sourced) → from ≤ middle → middle ≤ to
      → is_over_limits (clauses_in (before ++ fold kept_with kept (sources_of size sentence base from middle))) ≡ true
      → is_over_limits (clauses_in (before ++ fold kept_with kept (sources_of size sentence base from to))) ≡ true
  over-rest from middle to before kept low high over =
      let first = sources_of size sentence base from middle in
      let rest = sources_of size sentence base middle to in
      over-as before
      (sym (fold-append kept_with kept first rest) ∙ ap (fold kept_with kept) (sym (sources-add from middle to low high)))
      (over-grows before (fold kept_with kept first) rest over)

  instance-sources : (place k : ℕ) → base ≡ (place + 1) * 4294967296 → k < 4294967296 → sources_at size sentence base k ≡ from_instance size place sentence k
  instance-sources place k e h = origin-same (rows_at size sentence k) (base + k) (Instance place k) (instance-here (base + k) place k (omega (arith, e)) h)

-- of the clauses of all instances of an axiom the first of equal ones
pub axiom-sources : (size : Extent) (a : Titled) (base place count : ℕ) → base ≡ (place + 1) * 4294967296 → count ≡ instance_count size a.sentence → count ≤ 40000000 →
    fold kept_with [] (sources_of size a.sentence base 0 count) ≡ from_axiom size place (Some a)
axiom-sources size a base place count e whole few =
    let none : count - 0 ≡ instance_count size a.sentence = omega (arith, whole) in
    ap (fold kept_with [])
    (ap (rows_from (sources_at size a.sentence base) 0) none
    ∙ rows-agree (sources_at size a.sentence base) (from_instance size place a.sentence) 0 (instance_count size a.sentence) (λ k less. instance-sources size a.sentence base place k e (omega (arith, less, whole, few))))
    ∙ kept_are_firsts [] [] (flat_map (from_instance size place a.sentence) (up_from 0 (instance_count size a.sentence))) (λ c. refl)
