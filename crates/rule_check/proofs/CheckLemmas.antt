-- Axiom after axiom, up to the first that a rule does not satisfy.
use Rattle.std.proofs.Common.{◌≡◌, ap, sym, ◌∙◌, ℕ, zero, suc, ◌+◌, ◌<◌, cond, Bool, true, List, [], ◌∷◌, length, drop, slice_get, slice_index_or, Some, None, refl, add-one, drop-cons, arith}
use Rattle.std.specs.Prelude.{nat_lt}
use Rattle.std.specs.List.{list_all}
use Rattle.std.proofs.lemmas.Bool.{and_parts}
use Rattle.vocab.specs.Limits.{instance_count}
use Rattle.vocab.specs.Study.{Question}
use Rattle.vocab.specs.Titled.{Titled}
use Rattle.meaning.specs.Instances.{is_instance_true}
use Rattle.meaning.specs.Truth.{is_axiom_true}
use Rattle.meaning.proofs.InstanceLaws.{have_instances}
use Rattle.meaning.proofs.SpaceLaws.{all_from}
use Rattle.verdicts.specs.declared.refusals.Refusal.TheVariants.{Fails}
use Rattle.verdicts.specs.Faults.{table_fault, failing}
use Rattle.verdicts.proofs.TableLaws.{table_faults}
use Rattle.rule_check.specs.Pieces.{IsLeastFalse}

module _ (study : Question) (place : ℕ) (a : Titled) where
  -- an axiom without a false instance leaves the fault to those after it
  pub goes_on : (table places : List ℕ) → slice_get study.axioms place ≡ Some a → IsLeastFalse study.size table a 0 (instance_count study.size a.sentence) None → table_fault study table (place ∷ places) ≡ table_fault study table places
  goes_on table places at all =
      let each : is_axiom_true study.size table (slice_get study.axioms place) ≡ true
      = ap (is_axiom_true study.size table) at ∙ have_instances study.size table a.sentence ∙ all_from (is_instance_true study.size table a.sentence) (instance_count study.size a.sentence) 0 (λ k low high. all k low (omega (arith, high))) in
      ap (λ b. cond b (table_fault study table places) (failing study table (slice_get study.axioms place))) each

  -- an axiom with one is the fault
  pub ends : (table places : List ℕ) (instance : ℕ) → list_all (λ k. nat_lt k (length study.axioms)) (place ∷ places) ≡ true → slice_get study.axioms place ≡ Some a
      → IsLeastFalse study.size table a 0 (instance_count study.size a.sentence) (Some instance) → table_fault study table (place ∷ places) ≡ Some (Fails a.name instance)
  ends table places instance there at least =
      ((table_faults study table (place ∷ places) there).1 a.name instance).1 (record { before = []; place = place; after = places; failing = a; split = refl; at = at; named = refl; satisfied = refl; first = least })

-- what holds of each item of a list holds of each item past a place
all_past : (P : ℕ → Bool) (xs : List ℕ) (i : ℕ) → list_all P xs ≡ true → list_all P (drop i xs) ≡ true
all_past P [] zero h = h
all_past P [] (suc i) h = h
all_past P (x ∷ xs) zero h = h
all_past P (x ∷ xs) (suc i) h = all_past P xs i (and_parts (P x) (list_all P xs) h).1

module _ (study : Question) (table places : List ℕ) (i : ℕ) (a : Titled) where
  -- the places that are left begin with this one
  left : i < length places → drop i places ≡ slice_index_or places i 0 ∷ drop (i + 1) places
  left h = rw (add-one, drop-cons places i 0) refl

  pub further : i < length places → slice_get study.axioms (slice_index_or places i 0) ≡ Some a → IsLeastFalse study.size table a 0 (instance_count study.size a.sentence) None
      → table_fault study table places ≡ table_fault study table (drop i places) → table_fault study table places ≡ table_fault study table (drop (i + 1) places)
  further h at all before = before ∙ ap (table_fault study table) (left h) ∙ goes_on study (slice_index_or places i 0) a table (drop (i + 1) places) at all

  pub found : list_all (λ k. nat_lt k (length study.axioms)) places ≡ true → i < length places → slice_get study.axioms (slice_index_or places i 0) ≡ Some a → (instance : ℕ)
      → IsLeastFalse study.size table a 0 (instance_count study.size a.sentence) (Some instance) → table_fault study table places ≡ table_fault study table (drop i places)
      → Some (Fails a.name instance) ≡ table_fault study table places
  found there h at instance least before =
      let ahead : list_all (λ k. nat_lt k (length study.axioms)) (slice_index_or places i 0 ∷ drop (i + 1) places) ≡ true = rw (left h) at (all_past (λ k. nat_lt k (length study.axioms)) places i there) in
      sym (before ∙ ap (table_fault study table) (left h) ∙ ends study (slice_index_or places i 0) a table (drop (i + 1) places) instance ahead at least)
