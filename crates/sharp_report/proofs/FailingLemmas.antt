-- The first of some instances whose body is false of a table.
use Rattle.std.proofs.Common.{◌≡◌, ap, ℕ, ◌+◌, ◌≤◌, true, List, length, slice_get, Option, Some, arith, ltb-true}
use Rattle.std.specs.Prelude.{nat_lt}
use Rattle.std.specs.List.{list_all}
use Rattle.std.specs.Option.{option_map_or}
use Rattle.std.proofs.lemmas.Bool.{and_parts}
use Rattle.vocab.specs.Limits.{instance_count}
use Rattle.vocab.specs.Study.{Question}
use Rattle.vocab.specs.Titled.{Titled}
use Rattle.meaning.specs.declared.stories.Lemma.{Lemma}
use Rattle.lists.proofs.Members.{in_filter, all_in}
use Rattle.sharp_verdicts.specs.declared.instances.Cited.{Cited}
use Rattle.sharp_verdicts.specs.declared.refusals.SharpRefusal.{SharpRefusal}
use Rattle.sharp_verdicts.specs.Instances.{others_than, count_at, is_present, all_instances, is_told, instances_of}
use Rattle.sharp_verdicts.specs.SharpFaults.{instances_fault}
use Rattle.sharp_verdicts.proofs.InstanceLaws.{all_present}

module _ (study : Question) where
  pub number_within : (c : Cited) (a : Titled) → is_present study c ≡ true → slice_get study.axioms c.«axiom» ≡ Some a → c.number + 1 ≤ instance_count study.size a.sentence
  number_within c a h e =
      let lt = ltb-true c.number (count_at study c.«axiom») (and_parts (nat_lt c.«axiom» (length study.axioms)) (nat_lt c.number (count_at study c.«axiom»)) h).1 in
      let same : count_at study c.«axiom» ≡ instance_count study.size a.sentence = ap (λ (o : Option Titled). option_map_or (λ (b : Titled). instance_count study.size b.sentence) o 0) e in
      omega (arith, lt, same)

  -- ---- one after another

  module _ (table : List ℕ) (c : Cited) where
    abbrev pub fault_from : List Cited → Option SharpRefusal
    fault_from instances = instances_fault study table (others_than instances c)

-- ---- the instances that a story cites are there

module _ (study : Question) where
  pub listed_present : (story : List Lemma) → list_all (is_present study) (instances_of study story) ≡ true
  listed_present story = all_in (is_present study) (instances_of study story) (λ c i. all_present study c (in_filter (is_told study story) (all_instances study) c i).0)
