-- The total of a study, axiom after axiom.
use Rattle.std.proofs.Common.{◌≡◌, refl, sym, ◌∙◌, ap, ℕ, ◌+◌, ◌<◌, ◌≤◌, true, false, List, [], ◌∷◌, ◌++◌, map, length, append-nil, arith, get_or, None, sum_by, ltb-true}
use Rattle.std.specs.Prelude.{nat_lt, slice_get}
use Rattle.std.specs.List.{flat_map}
use Rattle.std.proofs.lemmas.Bool.{and_parts, ltb-false, or_parts}
use Rattle.std.proofs.lemmas.List.Concat.{flat_map-append}
use Rattle.std.proofs.lemmas.List.Sums.{sum_by-cons, sum_by-append}
use Rattle.vocab.specs.Range.{up_from}
use Rattle.vocab.specs.Study.{Question}
use Rattle.vocab.proofs.Ranges.{below_more}
use Rattle.meaning.specs.declared.clauses.Counts.{Counts}
use Rattle.meaning.specs.Measure.{measure_of}
use Rattle.meaning.specs.Space.{below}
use Rattle.meaning.specs.StudyClauses.{instance_of}
use Rattle.meaning.proofs.BallotLaws.{up_from_at}
use Rattle.meaning.proofs.SpaceLaws.{length-up_from}
use Rattle.grounding.proofs.ChosenLemmas.{chosen-narrow}
use Rattle.clause_form.specs.Refusals.{first_wide}
use Rattle.clause_form.specs.Wide.{is_wide}
use Rattle.search_logs.specs.Spent.{all_places}
use Rattle.sharp_verdicts.specs.declared.instances.Cited.{Cited}
use Rattle.sharp_verdicts.specs.Instances.{count_at}
use Rattle.sharp_verdicts.specs.Totals.{counts_of_instance, passes_clause_limits}
use Rattle.instance_totals.specs.Bounds.{HasRoomFor}
use Rattle.instance_totals.specs.Sums.{instance_at, counts_from, frame_counts, AreAllNarrow}
use Rattle.instance_totals.proofs.SumLemmas.{counted, sum_few}
use Rattle.instance_studies.proofs.StudyLaws.{has_axiom}

-- ---- limits

-- what passes no limit
pub within_limits : (counts : Counts) → passes_clause_limits counts ≡ false → (counts.clauses ≤ 4000000) × (counts.literals ≤ 60000000)
within_limits counts h =
    let e = or_parts (nat_lt 4000000 counts.clauses) (nat_lt 60000000 counts.literals) h in
    let few = ltb-false 4000000 counts.clauses e.0 in
    let small = ltb-false 60000000 counts.literals e.1 in
    (omega (arith, few), omega (arith, small))

-- ---- narrow instances

module _ (study : Question) where
  -- where none is found, no instance is too wide
  pub all_narrow : first_wide study.size study.axioms (all_places study) ≡ None → AreAllNarrow study
  all_narrow none c h =
      let e = and_parts (nat_lt c.«axiom» (length study.axioms)) (nat_lt c.number (count_at study c.«axiom»)) h in
      let there : c.«axiom» < length study.axioms = ltb-true c.«axiom» (length study.axioms) e.0 in
      let r = has_axiom study c (slice_get study.axioms c.«axiom») refl e.1 in
      let a = r.0 in
      let place : get_or (all_places study) c.«axiom» 0 ≡ c.«axiom» = up_from_at (length study.axioms) 0 c.«axiom» there ∙ omega arith in
      let within : c.«axiom» < length (all_places study) = let l = length-up_from 0 (length study.axioms) in omega (arith, l, there) in
      let narrow : is_wide (measure_of (instance_of study.size a.sentence c.number)) ≡ false =
      chosen-narrow study.size study.axioms (all_places study) c.«axiom» a none within (ap (slice_get study.axioms) place ∙ r.1) c.number (omega arith) r.2 in
      ap is_wide (counted study c a r.1) ∙ narrow

  -- ---- axiom after axiom

  abbrev block : ℕ → List Cited
  block k = map (λ n. record { «axiom» = k; number = n }) (below (count_at study k))

  abbrev cl : Cited → ℕ
  cl c = (counts_of_instance study c).clauses

  abbrev li : Cited → ℕ
  li c = (counts_of_instance study c).literals

  -- the counts of the frames together with those of the instances of the first axioms
  abbrev pub front : ℕ → Counts
  front k = record {
    clauses = (frame_counts study).clauses + sum_by cl (flat_map block (below k));
    literals = (frame_counts study).literals + sum_by li (flat_map block (below k));
  }

  sum_mapped : (f : Cited → ℕ) (k : ℕ) (ns : List ℕ) → sum_by f (map (instance_at k) ns) ≡ sum_by (λ n. f (instance_at k n)) ns
  sum_mapped f k [] = refl
  sum_mapped f k (n ∷ ns) = sum_by-cons f (instance_at k n) (map (instance_at k) ns) ∙ ap (λ (x : ℕ). f (instance_at k n) + x) (sum_mapped f k ns) ∙ sym (sum_by-cons (λ m. f (instance_at k m)) n ns)

  sum_block : (f : Cited → ℕ) (k : ℕ) → sum_by f (flat_map block (below (k + 1))) ≡ sum_by f (flat_map block (below k)) + sum_by (λ n. f (instance_at k n)) (up_from 0 (count_at study k))
  sum_block f k =
      ap (λ (ks : List ℕ). sum_by f (flat_map block ks)) (below_more k)
      ∙ ap (sum_by f) (flat_map-append block (below k) (k ∷ []))
      ∙ sum_by-append f (flat_map block (below k)) (block k ++ [])
      ∙ ap (λ (cs : List Cited). sum_by f (flat_map block (below k)) + sum_by f cs) (append-nil (block k))
      ∙ ap (λ (x : ℕ). sum_by f (flat_map block (below k)) + x) (sum_mapped f k (below (count_at study k)))

  -- the instances of one axiom more
  pub front_more : (k : ℕ) (sum : Counts) → sum ≡ counts_from study k 0 (count_at study k) → ((front (k + 1)).clauses ≡ (front k).clauses + sum.clauses) × ((front (k + 1)).literals ≡ (front k).literals + sum.literals)
  front_more k sum is =
      let c = sum_block cl k in
      let l = sum_block li k in
      let clauses = ap (λ (x : Counts). x.clauses) is in
      let literals = ap (λ (x : Counts). x.literals) is in
      (omega (arith, c, clauses), omega (arith, l, literals))

  -- what has room for all instances of one axiom more
  pub room_more : (place : ℕ) (before after : Counts) → HasRoomFor study place before after → (front place).clauses ≤ before.clauses → (front place).literals ≤ before.literals
      → ((front (place + 1)).clauses ≤ after.clauses) × ((front (place + 1)).literals ≤ after.literals)
  room_more place before after room few small =
      let count = count_at study place in
      let more = front_more place (counts_from study place 0 count) refl in
      let clauses = sum_few (λ k. cl (instance_at place k)) room.most.clauses 0 count (λ k low high. (room.each k).clauses) in
      let literals = sum_few (λ k. li (instance_at place k)) room.most.literals 0 count (λ k low high. (room.each k).literals) in
      let c = room.clauses in
      let l = room.literals in
      (omega (arith, more.0, clauses, c, few), omega (arith, more.1, literals, l, small))
