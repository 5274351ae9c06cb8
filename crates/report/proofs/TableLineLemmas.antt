-- Places of axioms, as lists; and how tables are taken.
use Rattle.std.proofs.Common.{◌≡◌, refl, sym, ap, ◌∙◌, subst, ℕ, ◌+◌, ◌<◌, ◌≤◌, Bool, true, false, not, List, [], ◌∷◌, ◌++◌, length, filter, Option, Some, None, Result, Ok, Err, cond, arith, eq-eqb, eqb-true, length-append}
use Rattle.std.specs.Prelude.{◌==◌, nat_lt}
use Rattle.std.specs.List.{list_all}
use Rattle.std.specs.Option.{option_or}
use Rattle.std.proofs.lemmas.Bool.{and_parts, ne_eqb}
use Rattle.lists.specs.declared.memory.NoMemory.{NoMemory}
use Rattle.lists.proofs.TestLaws.{all_kept}
pub use Rattle.vocab.proofs.Ranges.{below_more}
use Rattle.vocab.specs.declared.kinds.Sort.TheVariants.{Profile}
use Rattle.vocab.specs.Size.{sort_count}
use Rattle.vocab.specs.Study.{Question}
use Rattle.meaning.specs.declared.cores.Witness.{Witness}
use Rattle.meaning.specs.declared.cores.Witness.TheVariants.{Rule}
use Rattle.meaning.specs.Space.{below}
use Rattle.meaning.specs.Truth.{is_rule}
use Rattle.meaning.proofs.SpaceLaws.{all_below}
use Rattle.verdicts.specs.declared.refusals.Refusal.{Refusal}
use Rattle.verdicts.specs.declared.refusals.Refusal.TheVariants.{Row}
use Rattle.verdicts.specs.declared.verdicts.Verdict.TheVariants.{Possible}
use Rattle.verdicts.specs.Lines.{Row as RowLine}
use Rattle.verdicts.specs.Places.{Place, AtWitnessRow, AtEnd, Standing}
use Rattle.verdicts.specs.Faults.{unless_so, next_after, next_core, rest_of, table_fault, asked_at, row_fault}
use Rattle.verdicts.specs.Judge.{after_witness, after_row}
use Rattle.report_lines.specs.declared.places.Place.TheVariants as place
use Rattle.report_lines.specs.Held.{held_place}
use Rattle.report.specs.declared.judging.Judging.{Judging}
use Rattle.report.specs.Stands.{Stands}
use Rattle.report.specs.Taken.{Takes, TakesTable}

-- the numbers below the length of a list
pub in_below : (places : List ℕ) (n m : ℕ) → places ≡ below n → n ≡ m → list_all (λ k. nat_lt k m) places ≡ true
in_below places n m e same = ap (list_all (λ k. nat_lt k m)) (e ∙ ap below same) ∙ all_below m

-- the items of a list but one
pub in_rest : (s : ℕ → Bool) (core places : List ℕ) (k : ℕ) → places ≡ filter (λ c. not (c == k)) core → list_all s core ≡ true → list_all s places ≡ true
in_rest s core places k e h = ap (list_all s) e ∙ all_kept s (λ c. not (c == k)) core h

pub rest_is : (places rest from core : List ℕ) (k : ℕ) → places ≡ rest → rest ≡ filter (λ c. not (c == k)) from → from ≡ core → places ≡ filter (λ c. not (c == k)) core
rest_is places rest from core k e f g = e ∙ f ∙ ap (filter (λ c. not (c == k))) g

-- ---- places of the grammar

-- a place that is held as that of a witness's row is one
pub is_witness_row : (p : Place) → place.AtWitnessRow ≡ held_place p → p ≡ AtWitnessRow
is_witness_row AtWitnessRow e = refl
is_witness_row p e = absurd (cc)

-- a table that is refused is not taken
pub refused : (A : Type 0) (word : Refusal) → Some word ≡ None → A
refused A word e = absurd (cc)

module _ (study : Question) where
  -- a row more changes nothing of what is asked of the table
  asked_same : (p : Place) (s : Standing) (rows : List ℕ) → asked_at study p (record s { rows = rows }) ≡ asked_at study p s
  asked_same AtWitnessRow s rows = refl
  asked_same p s rows = refl

  -- a table that is not whole waits for its next row
  waits : (p : Place) (s : Standing) → (length s.rows == sort_count study.size Profile) ≡ false → after_row study p s ≡ s
  waits AtWitnessRow s e = ap (λ b. cond b (after_witness (record s { rows = []; witnesses = s.witnesses ++ Rule s.rows ∷ [] })) s) e
  waits p s e = ap (λ b. cond b (record s { place = AtEnd (Possible s.rows) }) s) e

  with_row : (r : Judging) (s : Standing) (o : ℕ) (rows : List ℕ) → Stands study r s → rows ≡ r.rows ++ o ∷ [] → Stands study (record r { rows = rows }) (record s { rows = s.rows ++ o ∷ [] })
  with_row r s o rows h e = record {
    place = h.place;
    version = h.version;
    rows = e ∙ ap (λ rows. rows ++ o ∷ []) h.rows;
    core = h.core;
    count = h.count;
    earlier = h.earlier;
    alone = h.alone;
    few = h.few;
    suppose = h.suppose;
    size = h.size;
    known = h.known;
    witnesses = h.witnesses;
  }

  row_faults : (s : Standing) (p o : ℕ) (last : Bool) → p ≡ length s.rows → (length s.rows + 1 == sort_count study.size Profile) ≡ last → row_fault study s p o ≡ cond last (table_fault study (s.rows ++ o ∷ []) (asked_at study s.place s)) None
  row_faults s p o last e f =
      ap (λ b. option_or (unless_so b Row) (cond (length s.rows + 1 == sort_count study.size Profile) (table_fault study (s.rows ++ o ∷ []) (asked_at study s.place s)) None)) (eq-eqb p (length s.rows) e)
      ∙ ap (λ b. cond b (table_fault study (s.rows ++ o ∷ []) (asked_at study s.place s)) None) f

  longer : (r : Judging) (s : Standing) (o : ℕ) (rows : List ℕ) → Stands study r s → rows ≡ r.rows ++ o ∷ [] → length rows ≡ length s.rows + 1
  longer r s o rows h e = ap length e ∙ ap (λ rows. length (rows ++ o ∷ [])) h.rows ∙ length-append s.rows (o ∷ [])

  -- a row before the last one
  pub part_taken : (r : Judging) (s : Standing) (p o : ℕ) (rows : List ℕ) → Stands study r s → p ≡ length r.rows → rows ≡ r.rows ++ o ∷ [] → (length rows ≡ sort_count study.size Profile → ⊥) →
      Takes study s (RowLine p o) (record r { rows = rows }) (Ok None)
  part_taken r s p o rows h same e more =
      let next : length (s.rows ++ o ∷ []) ≡ length s.rows + 1 = length-append s.rows (o ∷ []) in
      let not_last : (length s.rows + 1 == sort_count study.size Profile) ≡ false = ne_eqb _ _ (λ l. more (longer r s o rows h e ∙ l)) in
      let not_whole : (length (s.rows ++ o ∷ []) == sort_count study.size Profile) ≡ false = ap (λ n. n == sort_count study.size Profile) next ∙ not_last in (
        sym (row_faults s p o false (same ∙ ap length h.rows) not_last),
        λ _. subst (Stands study (record r { rows = rows })) (sym (waits s.place (record s { rows = s.rows ++ o ∷ [] }) not_whole)) (with_row r s o rows h e),
      )

  -- the last row, with the whole table
  pub whole_taken : (r after : Judging) (s : Standing) (p o : ℕ) (rows : List ℕ) (result : Result (Option Refusal) NoMemory) → Stands study r s → p ≡ length r.rows → rows ≡ r.rows ++ o ∷ [] → length rows ≡ sort_count study.size Profile →
      ((t : Standing) → Stands study (record r { rows = rows }) t → TakesTable study t after result) → Takes study s (RowLine p o) after result
  whole_taken r after s p o rows (Err w) h same e whole table = tt
  whole_taken r after s p o rows (Ok fault) h same e whole table =
      let last : (length s.rows + 1 == sort_count study.size Profile) ≡ true = eq-eqb _ _ (sym (longer r s o rows h e) ∙ whole) in
      let told = table (record s { rows = s.rows ++ o ∷ [] }) (with_row r s o rows h e) in (
        told.0 ∙ ap (table_fault study (s.rows ++ o ∷ [])) (asked_same s.place s (s.rows ++ o ∷ [])) ∙ sym (row_faults s p o true (same ∙ ap length h.rows) last),
        told.1,
      )

  -- ---- witnesses

  next_some : (core : List ℕ) (witnesses : List Witness) → next_after core witnesses ≡ None → length core ≤ length witnesses
  next_some [] witnesses e = omega arith
  next_some (k ∷ core) [] e = absurd (cc)
  next_some (k ∷ core) (w ∷ witnesses) e = omega (arith, next_some core witnesses e)

  -- where not every axiom of the core has its witness, one comes next
  pub has_next : (r : Judging) (s : Standing) → Stands study r s → r.witnesses < length r.core → None ≡ next_core s → ⊥
  has_next r s h l e =
      let same : length r.core ≡ length s.core = ap length h.core in
      omega (arith, l, same, h.witnesses, next_some s.core s.witnesses (sym e))

  whole_witness : (s : Standing) → length s.rows ≡ sort_count study.size Profile → after_row study AtWitnessRow s ≡ after_witness (record s { rows = []; witnesses = s.witnesses ++ Rule s.rows ∷ [] })
  whole_witness s e = ap (λ b. cond b (after_witness (record s { rows = []; witnesses = s.witnesses ++ Rule s.rows ∷ [] })) s) (eq-eqb _ _ e)

  -- the fault of the table of a witness
  pub witness_fault : (r : Judging) (s : Standing) (k : ℕ) (places : List ℕ) (fault : Option Refusal) → Stands study r s → r.place ≡ place.AtWitnessRow → Some k ≡ next_core s →
      places ≡ filter (λ c. not (c == k)) r.core → fault ≡ table_fault study r.rows places → fault ≡ table_fault study s.rows (asked_at study s.place s)
  witness_fault r s k places fault h at next rest e =
      let here : s.place ≡ AtWitnessRow = is_witness_row s.place (sym at ∙ h.place) in
      let asked : places ≡ asked_at study AtWitnessRow s = rest ∙ ap (λ core. rest_of core (Some k)) h.core ∙ ap (rest_of s.core) next in
      e ∙ ap (λ rows. table_fault study rows places) h.rows ∙ ap (table_fault study s.rows) asked ∙ ap (λ p. table_fault study s.rows (asked_at study p s)) (sym here)

  with_witness : (r : Judging) (s : Standing) (rows : List ℕ) → Stands study r s → rows ≡ [] → Stands study (record r { rows = rows; witnesses = r.witnesses + 1 }) (record s { rows = []; witnesses = s.witnesses ++ Rule s.rows ∷ [] })
  with_witness r s rows h e = record {
    place = h.place;
    version = h.version;
    rows = e;
    core = h.core;
    count = h.count;
    earlier = h.earlier;
    alone = h.alone;
    few = h.few;
    suppose = h.suppose;
    size = h.size;
    known = h.known;
    witnesses = omega (arith, h.witnesses, length-append s.witnesses (Rule s.rows ∷ []));
  }

  -- what is held after the table of a witness
  pub witness_stands : (r after : Judging) (s : Standing) (rows : List ℕ) → Stands study r s → r.place ≡ place.AtWitnessRow → is_rule study.size r.rows ≡ true → rows ≡ [] →
      ((t : Standing) → Stands study (record r { rows = rows; witnesses = r.witnesses + 1 }) t → Stands study after (after_witness t)) → Stands study after (after_row study s.place s)
  witness_stands r after s rows h at rule none go =
      let here : s.place ≡ AtWitnessRow = is_witness_row s.place (sym at ∙ h.place) in
      let whole : length s.rows ≡ sort_count study.size Profile = sym (ap length h.rows) ∙ eqb-true _ _ (and_parts _ _ rule).0 in
      subst (λ p. Stands study after (after_row study p s)) (sym here) (subst (Stands study after) (sym (whole_witness s whole)) (go (record s { rows = []; witnesses = s.witnesses ++ Rule s.rows ∷ [] }) (with_witness r s rows h none)))
