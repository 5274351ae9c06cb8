-- Clauses that are not refused are within the limits of a list, over few variables.
use Rattle.std.proofs.Common.{◌≡◌, refl, sym, ◌∙◌, ap, subst, ℕ, ◌+◌, ◌*◌, ◌≤◌, Bool, true, false, List, [], ◌∷◌, ◌++◌, map, length, length-append, append-nil, append_assoc, None, Some, arith, ltb-false}
use Rattle.std.specs.Prelude.{nat_lt, sum_by, if◌then◌else◌}
use Rattle.std.specs.List.{flat_map}
use Rattle.std.proofs.lemmas.Bool.{or_parts}
use Rattle.std.proofs.lemmas.List.{map-append}
use Rattle.std.proofs.lemmas.List.Sums.{sum_by-append}
use Rattle.std.proofs.lemmas.Nat.{mul-le}
use Rattle.vocab.specs.declared.kinds.Sort.TheVariants.{Profile}
use Rattle.vocab.specs.Size.{Extent, IsSize, sort_count}
use Rattle.vocab.specs.Study.{Question}
use Rattle.vocab.specs.Titled.{Titled}
use Rattle.cnf.specs.Sat.{Clause}
use Rattle.meaning.specs.declared.clauses.Origin.TheVariants.{Frame}
use Rattle.meaning.specs.Space.{below}
use Rattle.meaning.specs.StudyClauses.{Sourced, clauses_of, frame_of, from_frame, clauses_for}
use Rattle.meaning.specs.Variables.{bits, variable_count}
use Rattle.meaning.proofs.SpaceLaws.{length-up_from}
use Rattle.clause_form.specs.declared.refusals.GroundFault.TheVariants.{Full}
use Rattle.clause_form.specs.Refusals.{is_over_limits, first_wide, first_full}
use Rattle.outcomes.specs.Laws.{AreFramesSmall}
use Rattle.outcomes.proofs.SmallFrames.{frames_small}
use Rattle.search_logs.specs.Spent.{all_places}
use Rattle.answers.specs.Grounding.{all_clauses, clauses_fault}
use Rattle.lists.proofs.OptionLaws.{none_of_either}

-- a clause list is within its limits
pub record AreFew (clauses : List Clause) : Type 0 where
  pub short : length clauses ≤ 4000000
  pub light : sum_by length clauses ≤ 60000000

few_from_test : (clauses : List Clause) → is_over_limits clauses ≡ false → AreFew clauses
few_from_test clauses h =
    let p = or_parts (nat_lt 4000000 (length clauses)) (nat_lt 60000000 (sum_by length clauses)) h in
    record { short = ltb-false 4000000 (length clauses) p.0; light = ltb-false 60000000 (sum_by length clauses) p.1 }

module _ (size : Extent) (small : AreFramesSmall size) where
  -- the clauses of the frames of some profiles
  abbrev frames : List ℕ → List Clause
  frames profiles = map (λ (s : Sourced). s.clause) (flat_map (from_frame size) profiles)

  frame_clauses : (p : ℕ) (rows : List Clause) → map (λ (s : Sourced). s.clause) (map (λ (c : Clause). record { clause = c; origin = Frame p }) rows) ≡ rows
  frame_clauses p [] = refl
  frame_clauses p (c ∷ rows) = ap (λ (more : List Clause). c ∷ more) (frame_clauses p rows)

  frames-more : (p : ℕ) (ps : List ℕ) → frames (p ∷ ps) ≡ clauses_of size (frame_of size size.kind p) ++ frames ps
  frames-more p ps =
      map-append (λ (s : Sourced). s.clause) (from_frame size p) (flat_map (from_frame size) ps)
      ∙ ap (λ (rows : List Clause). rows ++ frames ps) (frame_clauses p (clauses_of size (frame_of size size.kind p)))

  frames_few : (ps : List ℕ) → (length (frames ps) ≤ 20 * length ps) × (sum_by length (frames ps) ≤ 60 * length ps)
  frames_few [] = (omega arith, omega arith)
  frames_few (p ∷ ps) =
      let rows : List Clause = clauses_of size (frame_of size size.kind p) in
      let rest = frames_few ps in
      let short : length (frames (p ∷ ps)) ≡ length rows + length (frames ps) = ap (λ (cs : List Clause). length cs) (frames-more p ps) ∙ length-append rows (frames ps) in
      let light : sum_by length (frames (p ∷ ps)) ≡ sum_by length rows + sum_by length (frames ps) = ap (λ (cs : List Clause). sum_by length cs) (frames-more p ps) ∙ sum_by-append length rows (frames ps) in
      let here : length rows ≤ 20 = small.few_clauses p in
      let there : sum_by length rows ≤ 60 = small.few_literals p in
      (omega (arith, short, here, rest.0), omega (arith, light, there, rest.1))

  all_frames : (axioms : List Titled) → sort_count size Profile ≤ 20000 → AreFew (clauses_for size axioms [])
  all_frames axioms few =
      let profiles : ℕ = sort_count size Profile in
      let all = frames_few (below profiles) in
      let count : length (below profiles) ≡ profiles = length-up_from 0 profiles in
      subst (λ (ss : List Sourced). AreFew (map (λ (s : Sourced). s.clause) ss)) (sym (append-nil (flat_map (from_frame size) (below profiles))))
      (record { short = omega (arith, all.0, count, few); light = omega (arith, all.1, count, few) })

module _ (size : Extent) (axioms : List Titled) where
  -- no axiom at which the list is full was found
  full_nowhere : (before chosen : List ℕ) → AreFew (clauses_for size axioms before) → first_full size axioms before chosen ≡ None → AreFew (clauses_for size axioms (before ++ chosen))
  full_nowhere before [] few none = subst (λ (places : List ℕ). AreFew (clauses_for size axioms places)) (sym (append-nil before)) few
  full_nowhere before (place ∷ chosen) few none =
      subst (λ (places : List ℕ). AreFew (clauses_for size axioms places)) (append_assoc before (place ∷ []) chosen)
      (by_test (full_nowhere (before ++ place ∷ []) chosen) (is_over_limits (clauses_for size axioms (before ++ place ∷ []))) refl none)
    where
      by_test : (AreFew (clauses_for size axioms (before ++ place ∷ [])) → first_full size axioms (before ++ place ∷ []) chosen ≡ None → AreFew (clauses_for size axioms ((before ++ place ∷ []) ++ chosen)))
          → (b : Bool) → is_over_limits (clauses_for size axioms (before ++ place ∷ [])) ≡ b → (if b then Some (Full place) else first_full size axioms (before ++ place ∷ []) chosen) ≡ None
          → AreFew (clauses_for size axioms ((before ++ place ∷ []) ++ chosen))
      by_test further true over none = absurd (cc)
      by_test further false over none = further (few_from_test (clauses_for size axioms (before ++ place ∷ [])) over) none

-- clauses that are not refused are within the limits of a list
pub clauses_few : (study : Question) → IsSize study.size → clauses_fault study ≡ None → AreFew (all_clauses study)
clauses_few study size none =
    let small = frames_small study.size size in
    full_nowhere study.size study.axioms [] (all_places study) (all_frames study.size small study.axioms size.few_profiles)
    (none_of_either (first_wide study.size study.axioms (all_places study)) (first_full study.size study.axioms [] (all_places study)) none).1

-- there are few variables
pub variables_few : (size : Extent) → IsSize size → variable_count size ≤ 200000
variables_few size is =
    let small = frames_small size is in
    mul-le (sort_count size Profile) (bits size.kind size.alternatives) 20000 10 is.few_profiles small.few_bits
