-- Axiom after axiom: the first too wide instance, and the first axiom at which the list is full.
use Rattle.std.proofs.Common.{◌≡◌, ◌<◌, ◌≤◌, ◌+◌, ◌&&◌, ℕ, zero, suc, Bool, true, false, cond, not, List, [], ◌∷◌, ◌++◌, length, take, drop, find, refl, sym, ap, ap₂, ◌∙◌, subst, if◌then◌else◌, arith, inl, inr, append_assoc, append-nil, add-one, drop-cons, Option, Some, None, slice_get, slice_index_or, ltb-true, eq-or-lt_of_le}
use Rattle.std.specs.Prelude.{nat_lt, option_and_then, option_map}
use Rattle.std.specs.List.{flat_map}
use Rattle.std.specs.Option.{option_or}
use Rattle.std.proofs.lemmas.Bool.{and_parts}
use Rattle.std.proofs.lemmas.Grind.{flat_map-append}
use Rattle.std.proofs.lemmas.List.{take_more}
use Rattle.vocab.specs.declared.kinds.Sort.TheVariants.{Profile}
use Rattle.vocab.specs.Limits.{instance_count}
use Rattle.vocab.specs.Range.{below, up_from}
use Rattle.vocab.specs.Size.{Extent, sort_count}
use Rattle.vocab.specs.Titled.{Titled}
use Rattle.meaning.specs.Cores.{is_core_from}
use Rattle.meaning.specs.StudyClauses.{Sourced, from_axiom, from_frame, study_clauses}
use Rattle.clause_form.specs.declared.refusals.GroundFault.{GroundFault}
use Rattle.clause_form.specs.declared.refusals.GroundFault.TheVariants.{Wide, Full, NoMemory}
use Rattle.clause_form.specs.Refusals.{IsRefused, first_full, first_wide, is_over_limits, wide_instance}
use Rattle.clause_form.specs.Sources.{clauses_in}
use Rattle.clause_form.specs.Wide.{is_wide}
use Rattle.grounding.specs.declared.parts.WideInstance.{WideInstance}
use Rattle.grounding.specs.Pieces.{AreNarrow, IsFirstWide, IsLeastWide, measure_at}
use Rattle.lists.proofs.OptionLaws.{none_of_either, none_of_map}

-- ---- the first number that passes a test

find-none : (t : ℕ → Bool) (n a : ℕ) → ((k : ℕ) → a ≤ k → k < a + n → t k ≡ false) → find t (up_from a n) ≡ None
find-none t zero a h = refl
find-none t (suc n) a h = ap (λ b. cond b (Some a) (find t (up_from (suc a) n))) (h a (omega arith) (omega arith)) ∙ find-none t n (suc a) (λ k low high. h k (omega (arith, low)) (omega (arith, high)))

find-first : (t : ℕ → Bool) (n a v : ℕ) → a ≤ v → v < a + n → t v ≡ true → ((k : ℕ) → a ≤ k → k < v → t k ≡ false) → find t (up_from a n) ≡ Some v
find-first t zero a v low high is h = absurd (omega arith)
find-first t (suc n) a v low high is h = elim (eq-or-lt_of_le low) [
  | inl e ↦ ap (λ b. cond b (Some a) (find t (up_from (suc a) n))) (ap t e ∙ is) ∙ ap Some e
  | inr l ↦ ap (λ b. cond b (Some a) (find t (up_from (suc a) n))) (h a (omega arith) l) ∙ find-first t n (suc a) v l (omega arith) is (λ k from to. h k (omega (arith, from)) to)
]

none-found : (t : ℕ → Bool) (n a k : ℕ) → find t (up_from a n) ≡ None → a ≤ k → k < a + n → t k ≡ false
none-found t zero a k e low high = absurd (omega arith)
none-found t (suc n) a k e low high = by (t a) refl e (λ f l. none-found t n (suc a) k f l (omega arith))
  where
    by : (b : Bool) → t a ≡ b → cond b (Some a) (find t (up_from (suc a) n)) ≡ None → (find t (up_from (suc a) n) ≡ None → suc a ≤ k → t k ≡ false) → t k ≡ false
    by true is f rest = absurd (let z : ⊥ = cc in z)
    by false is f rest = elim (eq-or-lt_of_le low) [
      | inl same ↦ subst (λ j. t j ≡ false) same is
      | inr l ↦ rest f l
    ]

-- ---- places of a study

place_below : (from end : ℕ) (chosen : List ℕ) (i : ℕ) → is_core_from from end chosen ≡ true → i < length chosen → slice_index_or chosen i 0 < end
place_below from end [] i h l = absurd (omega arith)
place_below from end (k ∷ chosen) zero h l =
    let p = and_parts (not (nat_lt k from) && nat_lt k end) (is_core_from (k + 1) end chosen) h in
    let q = and_parts (not (nat_lt k from)) (nat_lt k end) p.0 in
    ltb-true k end q.1
place_below from end (k ∷ chosen) (suc i) h l =
    let p = and_parts (not (nat_lt k from) && nat_lt k end) (is_core_from (k + 1) end chosen) h in
    place_below (k + 1) end chosen i p.1 (omega (arith, l))

pub chosen_below : (end : ℕ) (chosen : List ℕ) (i : ℕ) → is_core_from 0 end chosen ≡ true → i < length chosen → slice_index_or chosen i 0 < end
chosen_below end chosen i h l = place_below 0 end chosen i h l

-- the places that are left begin with this one
left : (chosen : List ℕ) (i : ℕ) → i < length chosen → drop i chosen ≡ slice_index_or chosen i 0 ∷ drop (i + 1) chosen
left chosen i h = rw (add-one, drop-cons chosen i 0) refl

module _ (size : Extent) (axioms : List Titled) where
  -- ---- too wide instances

  abbrev widest : ℕ → Option Titled → Option GroundFault
  widest place o = option_and_then (wide_instance size axioms place) o

  narrow-none : (place : ℕ) (a : Titled) → IsFirstWide size a.sentence 0 (instance_count size a.sentence) None → wide_instance size axioms place a ≡ None
  narrow-none place a narrow =
      ap (option_map (λ k. Wide place k (measure_at size a.sentence k)))
      (find-none (λ k. is_wide (measure_at size a.sentence k)) (instance_count size a.sentence) 0 (λ k low high. narrow k low (omega (arith, high))))

  wide-some : (place : ℕ) (a : Titled) (w : WideInstance) → IsLeastWide size a.sentence 0 (instance_count size a.sentence) w → wide_instance size axioms place a ≡ Some (Wide place w.number w.measure)
  wide-some place a w least =
      ap (option_map (λ k. Wide place k (measure_at size a.sentence k)))
      (find-first (λ k. is_wide (measure_at size a.sentence k)) (instance_count size a.sentence) 0 w.number (omega arith) (omega (arith, least.within)) (ap is_wide (sym least.measured) ∙ least.too_wide) least.first)
      ∙ ap (λ m. Some (Wide place w.number m)) (sym least.measured)

  module _ (chosen : List ℕ) (i : ℕ) (a : Titled) (h : i < length chosen) (at : slice_get axioms (slice_index_or chosen i 0) ≡ Some a) where
    this_first : first_wide size axioms (drop i chosen) ≡ option_or (wide_instance size axioms (slice_index_or chosen i 0) a) (first_wide size axioms (drop (i + 1) chosen))
    this_first = ap (first_wide size axioms) (left chosen i h) ∙ ap (λ (o : Option Titled). option_or (widest (slice_index_or chosen i 0) o) (first_wide size axioms (drop (i + 1) chosen))) at

    pub wide-further : first_wide size axioms chosen ≡ first_wide size axioms (drop i chosen) → IsFirstWide size a.sentence 0 (instance_count size a.sentence) None
        → first_wide size axioms chosen ≡ first_wide size axioms (drop (i + 1) chosen)
    wide-further before narrow = before ∙ this_first ∙ ap (λ (o : Option GroundFault). option_or o (first_wide size axioms (drop (i + 1) chosen))) (narrow-none (slice_index_or chosen i 0) a narrow)

    pub wide-found : first_wide size axioms chosen ≡ first_wide size axioms (drop i chosen) → (w : WideInstance) → IsLeastWide size a.sentence 0 (instance_count size a.sentence) w
        → first_wide size axioms chosen ≡ Some (Wide (slice_index_or chosen i 0) w.number w.measure)
    wide-found before w least = before ∙ this_first ∙ ap (λ (o : Option GroundFault). option_or o (first_wide size axioms (drop (i + 1) chosen))) (wide-some (slice_index_or chosen i 0) a w least)

  -- where no chosen axiom has a too wide instance, each is narrow
  pub chosen-narrow : (chosen : List ℕ) (i : ℕ) (a : Titled) → first_wide size axioms chosen ≡ None → i < length chosen → slice_get axioms (slice_index_or chosen i 0) ≡ Some a
      → AreNarrow size a.sentence 0 (instance_count size a.sentence)
  chosen-narrow [] i a none h at = absurd (omega arith)
  chosen-narrow (place ∷ chosen) zero a none h at =
      let first : wide_instance size axioms place a ≡ None = (none_of_either (wide_instance size axioms place a) (first_wide size axioms chosen) (sym (ap (λ (o : Option Titled). option_or (widest place o) (first_wide size axioms chosen)) at) ∙ none)).0 in
      λ k low high. none-found (λ k. is_wide (measure_at size a.sentence k)) (instance_count size a.sentence) 0 k (none_of_map (λ k. Wide place k (measure_at size a.sentence k)) (find (λ k. is_wide (measure_at size a.sentence k)) (below (instance_count size a.sentence))) first) low (omega (arith, high))
  chosen-narrow (place ∷ chosen) (suc i) a none h at = chosen-narrow chosen i a (none_of_either (widest place (slice_get axioms place)) (first_wide size axioms chosen) none).1 (omega (arith, h)) at

  -- ---- a full list

  -- the clauses of one axiom more
  study-more : (before : List ℕ) (place : ℕ) (a : Titled) → slice_get axioms place ≡ Some a → study_clauses size axioms (before ++ place ∷ []) ≡ study_clauses size axioms before ++ from_axiom size place (Some a)
  study-more before place a at =
      let all = λ (k : ℕ). from_axiom size k (slice_get axioms k) in
      let frames = flat_map (from_frame size) (below (sort_count size Profile)) in
      ap (λ (ss : List Sourced). frames ++ ss) (flat_map-append all before (place ∷ []))
      ∙ sym (append_assoc frames (flat_map all before) (flat_map all (place ∷ [])))
      ∙ ap (λ (ss : List Sourced). study_clauses size axioms before ++ ss) (append-nil (all place) ∙ ap (from_axiom size place) at)

  module _ (chosen : List ℕ) (i : ℕ) (a : Titled) (h : i < length chosen) (at : slice_get axioms (slice_index_or chosen i 0) ≡ Some a) where
    pub study-next : study_clauses size axioms (take (i + 1) chosen) ≡ study_clauses size axioms (take i chosen) ++ from_axiom size (slice_index_or chosen i 0) (Some a)
    study-next = ap (study_clauses size axioms) (take_more chosen i 0 h) ∙ study-more (take i chosen) (slice_index_or chosen i 0) a at

    full-here : (b : Bool) → is_over_limits (clauses_in (study_clauses size axioms (take i chosen) ++ from_axiom size (slice_index_or chosen i 0) (Some a))) ≡ b
        → first_full size axioms (take i chosen) (drop i chosen) ≡ (if b then Some (Full (slice_index_or chosen i 0)) else first_full size axioms (take (i + 1) chosen) (drop (i + 1) chosen))
    full-here b over =
        let place = slice_index_or chosen i 0 in
        ap (first_full size axioms (take i chosen)) (left chosen i h)
        ∙ ap₂ (λ c (before : List ℕ). if c then Some (Full place) else first_full size axioms before (drop (i + 1) chosen))
        (ap (λ (ss : List Sourced). is_over_limits (clauses_in ss)) (study-more (take i chosen) place a at) ∙ over)
        (sym (take_more chosen i 0 h))

    pub full-further : first_full size axioms [] chosen ≡ first_full size axioms (take i chosen) (drop i chosen)
        → is_over_limits (clauses_in (study_clauses size axioms (take (i + 1) chosen))) ≡ false
        → first_full size axioms [] chosen ≡ first_full size axioms (take (i + 1) chosen) (drop (i + 1) chosen)
    full-further before within = before ∙ full-here false (ap (λ (ss : List Sourced). is_over_limits (clauses_in ss)) (sym study-next) ∙ within)

    pub full-found : first_full size axioms [] chosen ≡ first_full size axioms (take i chosen) (drop i chosen)
        → is_over_limits (clauses_in (study_clauses size axioms (take i chosen) ++ from_axiom size (slice_index_or chosen i 0) (Some a))) ≡ true
        → first_full size axioms [] chosen ≡ Some (Full (slice_index_or chosen i 0))
    full-found before over = before ∙ full-here true over

-- ---- refusals

pub refused-first : (fault : GroundFault) (o p : Option GroundFault) → IsRefused fault o → IsRefused fault (option_or o p)
refused-first (Wide place k m) o p h = ap (λ q. option_or q p) h
refused-first (Full place) o p h = ap (λ q. option_or q p) h
refused-first NoMemory o p h = tt
