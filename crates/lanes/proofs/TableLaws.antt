-- What an entry tells at the values of another environment.
use Rattle.std.proofs.Common.{◌≡◌, sym, ◌∙◌, ap, subst, ℕ, zero, suc, ◌+◌, ◌-◌, ◌%◌, ◌<◌, ◌≤◌, true, List, [], ◌∷◌, ◌++◌, length, take, drop, get_or, arith, inl, inr, length-append, ltb-true, leb-true}
use Rattle.std.specs.Prelude.{◌&&◌, nat_eq, nat_le, nat_lt, slice_index}
use Rattle.std.specs.List.{list_any}
use Rattle.std.proofs.lemmas.Bool.{and_parts, or_cases, cases_lt}
use Rattle.std.proofs.lemmas.List.{get_or-take, get_or-drop, get_or_append_left, get_or-append_right, length-take-le}
use Rattle.vocab.specs.Range.{product}
use Rattle.vocab.specs.Size.{Extent}
use Rattle.vocab.specs.Tree.{Tree}
use Rattle.meaning.specs.Space.{digits_of}
use Rattle.meaning.specs.Written.{write_out}
use Rattle.meaning.proofs.DigitLaws.{length-digits_of}
use Rattle.lanes.specs.Covers.{is_kept, is_lane, is_no_lane}
use Rattle.lanes.specs.Lanes.{AreEntries, AreSameAt, IsEntry, IsTable, lane_values}
use Rattle.lanes.specs.Marks.{IsTold}
use Rattle.lanes.specs.declared.shapes.Shape.{Shape}
use Rattle.lanes.specs.declared.tables.Entry.{Entry}
use Rattle.lanes.specs.declared.tables.Table.{Table}
use Rattle.lanes.proofs.CoverLaws.{same_known}
use Rattle.lanes.proofs.PeriodLaws.{low_digits}

module _ (shape : Shape) (first k : ℕ) (env : List ℕ) (long : shape.outer + length shape.bases ≤ length env) where
  outer_len : length (take shape.outer env) ≡ shape.outer
  outer_len = length-take-le shape.outer env (omega (arith, long))

  front_len : length (take shape.outer env ++ digits_of shape.bases (first + k)) ≡ shape.outer + length shape.bases
  front_len = let a = length-append (take shape.outer env) (digits_of shape.bases (first + k)) in let b = length-digits_of shape.bases (first + k) in let c = outer_len in omega (arith, a, b, c)

  at_outer : (l : ℕ) → l < shape.outer → slice_index (lane_values shape first k env) l ≡ slice_index env l
  at_outer l h =
      let f = front_len in
      let n = outer_len in
      get_or_append_left (take shape.outer env ++ digits_of shape.bases (first + k)) (drop (shape.outer + length shape.bases) env) 0 l (omega (arith, f, h))
      ∙ get_or_append_left (take shape.outer env) (digits_of shape.bases (first + k)) 0 l (omega (arith, n, h))
      ∙ get_or-take shape.outer env l 0 h

  at_lane : (l : ℕ) → shape.outer ≤ l → l < shape.outer + length shape.bases → slice_index (lane_values shape first k env) l ≡ slice_index (digits_of shape.bases (first + k)) (l - shape.outer)
  at_lane l h i =
      let f = front_len in
      get_or_append_left (take shape.outer env ++ digits_of shape.bases (first + k)) (drop (shape.outer + length shape.bases) env) 0 l (omega (arith, f, i))
      ∙ get_or-append_right (take shape.outer env) (digits_of shape.bases (first + k)) shape.outer l 0 outer_len h

  at_inner : (l : ℕ) → shape.outer + length shape.bases ≤ l → slice_index (lane_values shape first k env) l ≡ slice_index env l
  at_inner l h =
      let m = shape.outer + length shape.bases in
      let same : m + (l - m) ≡ l = omega (arith, h) in
      get_or-append_right (take shape.outer env ++ digits_of shape.bases (first + k)) (drop m env) m l 0 front_len h
      ∙ get_or-drop m env (l - m) 0
      ∙ ap (λ i. get_or env i 0) same

module _ (shape : Shape) (skip own first k : ℕ) (levels a b : List ℕ) (long_a : shape.outer + length shape.bases ≤ length a) (long_b : shape.outer + length shape.bases ≤ length b) (same : AreSameAt levels a b)
    (lanes : (i : ℕ) → skip ≤ i → slice_index (digits_of shape.bases (own + k)) i ≡ slice_index (digits_of shape.bases (first + k)) i) where
  lanes_same : (l : ℕ) → shape.outer ≤ l → skip ≤ l - shape.outer → l < shape.outer + length shape.bases → slice_index (lane_values shape own k a) l ≡ slice_index (lane_values shape first k b) l
  lanes_same l h s i = at_lane shape own k a long_a l h i ∙ lanes (l - shape.outer) s ∙ sym (at_lane shape first k b long_b l h i)

  others_same : (l : ℕ) → is_no_lane shape l ≡ true → list_any (nat_eq l) levels ≡ true → slice_index (lane_values shape own k a) l ≡ slice_index (lane_values shape first k b) l
  others_same l apart h = elim (cases_lt l shape.outer) [
    | inl low ↦ at_outer shape own k a long_a l low ∙ same l h ∙ sym (at_outer shape first k b long_b l low)
    | inr not_low ↦ (let high : length shape.bases ≤ l - shape.outer = elim (or_cases (nat_lt l shape.outer) (nat_le (length shape.bases) (l - shape.outer)) apart) [
      | inl below ↦ (let z = ltb-true l shape.outer below in omega (arith, z, not_low))
      | inr above ↦ leb-true (length shape.bases) (l - shape.outer) above
    ] in
        at_inner shape own k a long_a l (omega (arith, high, not_low)) ∙ same l h ∙ sym (at_inner shape first k b long_b l (omega (arith, high, not_low))))
  ]

  kept_same : (l : ℕ) → is_kept shape skip levels l ≡ true → slice_index (lane_values shape own k a) l ≡ slice_index (lane_values shape first k b) l
  kept_same l h = elim (or_cases (is_lane shape skip l) (is_no_lane shape l && list_any (nat_eq l) levels) h) [
    | inl lane ↦ (let p = and_parts (nat_le shape.outer l && nat_le skip (l - shape.outer)) (nat_lt (l - shape.outer) (length shape.bases)) lane in
        let q = and_parts (nat_le shape.outer l) (nat_le skip (l - shape.outer)) p.0 in
        let low = leb-true shape.outer l q.0 in
        let past = leb-true skip (l - shape.outer) q.1 in
        let high = ltb-true (l - shape.outer) (length shape.bases) p.1 in
        lanes_same l low past (omega (arith, low, high)))
    | inr level ↦ (let p = and_parts (is_no_lane shape l) (list_any (nat_eq l) levels) level in others_same l p.0 p.1)
  ]

entry_in : (size : Extent) (shape : Shape) (f : Tree) (es : List Entry) (i : ℕ) (d : Entry) → AreEntries size shape f es → i < length es → IsEntry size shape f (get_or es i d)
entry_in size shape f [] i d h l = absurd (omega (arith, l))
entry_in size shape f (e ∷ es) zero d h l = h.0
entry_in size shape f (e ∷ es) (suc i) d h l = entry_in size shape f es i d h.1 (omega (arith, l))

pub told_by : (size : Extent) (shape : Shape) (f : Tree) (t : Table) (i : ℕ) (e : Entry) (first k : ℕ) (env : List ℕ) → IsTable size shape f t → i < length t.entries.items → e ≡ get_or t.entries.items i e
    → e.first ≤ first → 0 < t.period → (first - e.first) % t.period ≡ 0 → AreSameAt t.levels.items e.values env
    → shape.outer + length shape.bases ≤ length env → first + k < product shape.bases → IsTold e.marks k (write_out size f (lane_values shape first k env))
told_by size shape f t i e first k env table within at before some whole same long l =
    let entry : IsEntry size shape f e = subst (λ x. IsEntry size shape f x) (sym at) (entry_in size shape f t.entries.items i e table.entries within) in
    let told : IsTold e.marks k (write_out size f (lane_values shape e.first k e.values)) = entry.told k (omega (arith, before, l)) in
    let known = same_known size shape t.skip t.levels.items (lane_values shape e.first k e.values) (lane_values shape first k env)
    (kept_same shape t.skip e.first first k t.levels.items e.values env entry.long long same
    (low_digits t.skip shape.bases e.first first k t.period table.period before some whole l)) f table.covered in
    record { yes = λ b. sym known ∙ told.yes b; no = λ b. sym known ∙ told.no b }

are_more : (size : Extent) (shape : Shape) (f : Tree) (es : List Entry) (e : Entry) → AreEntries size shape f es → IsEntry size shape f e → AreEntries size shape f (es ++ e ∷ [])
are_more size shape f [] e h i = (i, tt)
are_more size shape f (d ∷ es) e h i = (h.0, are_more size shape f es e h.1 i)

pub one_more_entry : (size : Extent) (shape : Shape) (f : Tree) (es : List Entry) (e : Entry) → AreEntries size shape f es → IsEntry size shape f e → AreEntries size shape f (es ++ e ∷ [])
one_more_entry = are_more
