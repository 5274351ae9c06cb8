-- The study of some instances is a study within the limits.
use Rattle.std.proofs.Common.{◌≡◌, refl, sym, ap, ◌∙◌, subst, ℕ, suc, ◌+◌, ◌<◌, ◌≤◌, true, false, not, List, [], ◌∷◌, ◌++◌, length, length-take, take, take_all, get_or, ap₂, arith, Option, Some, None}
use Rattle.std.specs.List.{list_all, list_any}
use Rattle.std.specs.Prelude.{nat_lt, nat_eq, slice_get}
use Rattle.std.specs.Cmp.Lexicographic.{pointwise}
use Rattle.std.specs.Option.{option_map_or}
use Rattle.std.proofs.lemmas.Bool.{and_parts, and_from, false_from_ne_true, ltb-true, or_from}
use Rattle.std.proofs.Math.Seq.{take-suc}
use Rattle.std.proofs.lemmas.Slice.Eq.{bytes_eq-Decides}
use Rattle.lists.proofs.TestLaws.{all_get}
use Rattle.vocab.specs.Limits.{bases_of, instance_count, is_within_limits}
use Rattle.vocab.specs.Study.{Question, IsStudy, is_sentence, axioms_have_own_names}
use Rattle.vocab.specs.Titled.{Titled}
use Rattle.meaning.specs.Instances.{instance_values}
use Rattle.meaning.proofs.DigitLaws.{are_one_to_one}
use Rattle.closing.proofs.SentenceLaws.{are_sentences}
use Rattle.sharp_verdicts.specs.declared.instances.Cited.{Cited}
use Rattle.sharp_verdicts.specs.Instances.{count_at, is_present}
use Rattle.sharp_verdicts.specs.Derived.{instance_name, closed_at, axiom_of, axioms_from, derived_study}
use Rattle.instance_studies.proofs.NameLaws.{names_differ}

-- of an instance that is present the axiom is there, and its number is one of its instances
pub has_axiom : (study : Question) (c : Cited) (o : Option Titled) → slice_get study.axioms c.«axiom» ≡ o → nat_lt c.number (option_map_or (λ (a : Titled). instance_count study.size a.sentence) o 0) ≡ true
    → (a : Titled) × (slice_get study.axioms c.«axiom» ≡ Some a) × (c.number < instance_count study.size a.sentence)
has_axiom study c None e h = absurd (let l = ltb-true c.number 0 h in omega (arith, l))
has_axiom study c (Some a) e h = (a, e, ltb-true c.number (instance_count study.size a.sentence) h)

-- how many instances and which values an axiom has, and its closed body
abbrev count_in : Question → Option Titled → ℕ
count_in study o = option_map_or (λ (a : Titled). instance_count study.size a.sentence) o 0

abbrev values_in : Question → Option Titled → ℕ → List ℕ
values_in study o n = option_map_or (λ (a : Titled). instance_values study.size a.sentence n) o []

module _ (study : Question) (taken : IsStudy study) where
  closed_fits : (name : List ℕ) (k n : ℕ) (o : Option Titled) → slice_get study.axioms k ≡ o → nat_lt n (count_in study o) ≡ true →
      (is_sentence study.size (record { name = name; sentence = closed_at o (values_in study o n) }) ≡ true) × (is_within_limits study.size (closed_at o (values_in study o n)) ≡ true)
  closed_fits name k n None e lt = absurd (let l = ltb-true n 0 lt in omega (arith, l))
  closed_fits name k n (Some a) e lt =
      are_sentences study.size a name (instance_values study.size a.sentence n)
      (all_get (is_sentence study.size) study.axioms k a taken.sentences e)
      (all_get (λ (b : Titled). is_within_limits study.size b.sentence) study.axioms k a taken.limits e)
      ((are_one_to_one (bases_of study.size a.sentence)).digits n (ltb-true n (instance_count study.size a.sentence) lt))

  axiom_fits : (place : ℕ) (c : Cited) → is_present study c ≡ true → (is_sentence study.size (axiom_of study place c) ≡ true) × (is_within_limits study.size (axiom_of study place c).sentence ≡ true)
  axiom_fits place c h = closed_fits (instance_name place) c.«axiom» c.number (slice_get study.axioms c.«axiom») refl (and_parts (nat_lt c.«axiom» (length study.axioms)) (nat_lt c.number (count_at study c.«axiom»)) h).1

  pub are_sentences_from : (place : ℕ) (cs : List Cited) → list_all (is_present study) cs ≡ true → list_all (is_sentence study.size) (axioms_from study place cs) ≡ true
  are_sentences_from place [] h = refl
  are_sentences_from place (c ∷ cs) h =
      let e = and_parts (is_present study c) (list_all (is_present study) cs) h in
      and_from _ _ (axiom_fits place c e.0).0 (are_sentences_from (place + 1) cs e.1)

  pub are_within_from : (place : ℕ) (cs : List Cited) → list_all (is_present study) cs ≡ true → list_all (λ (a : Titled). is_within_limits study.size a.sentence) (axioms_from study place cs) ≡ true
  are_within_from place [] h = refl
  are_within_from place (c ∷ cs) h =
      let e = and_parts (is_present study c) (list_all (is_present study) cs) h in
      and_from _ _ (axiom_fits place c e.0).1 (are_within_from (place + 1) cs e.1)

module _ (study : Question) where
  name_is_new : (p q : ℕ) (cs : List Cited) → p < q → list_any (λ (b : Titled). pointwise nat_eq (instance_name p) b.name) (axioms_from study q cs) ≡ false
  name_is_new p q [] lt = refl
  name_is_new p q (c ∷ cs) lt =
      or_from _ _ (false_from_ne_true _ (λ e. let same = names_differ p q ((bytes_eq-Decides (instance_name p) (instance_name q)).0 e) in absurd (omega (arith, same, lt))))
      (name_is_new p (q + 1) cs (omega (arith, lt)))

  pub have_names_from : (place : ℕ) (cs : List Cited) → axioms_have_own_names (axioms_from study place cs) ≡ true
  have_names_from place [] = refl
  have_names_from place (c ∷ cs) = and_from _ _ (ap not (name_is_new place (place + 1) cs (omega arith))) (have_names_from (place + 1) cs)

  pub length_from : (place : ℕ) (cs : List Cited) → length (axioms_from study place cs) ≡ length cs
  length_from place [] = refl
  length_from place (c ∷ cs) = ap suc (length_from (place + 1) cs)

  -- one instance more
  pub from_more : (place : ℕ) (cs : List Cited) (c : Cited) → axioms_from study place (cs ++ c ∷ []) ≡ axioms_from study place cs ++ axiom_of study (place + length cs) c ∷ []
  from_more place [] c = let same : place ≡ place + 0 = omega arith in ap (λ (p : ℕ). axiom_of study p c ∷ []) same
  from_more place (d ∷ cs) c =
      let over : (place + 1) + length cs ≡ place + length (d ∷ cs) = omega arith in
      ap (λ xs. axiom_of study place d ∷ xs) (from_more (place + 1) cs c ∙ ap (λ (p : ℕ). axioms_from study (place + 1) cs ++ axiom_of study p c ∷ []) over)

pub derived_is_study : (study : Question) (cs : List Cited) → IsStudy study → list_all (is_present study) cs ≡ true → length cs ≤ 4000000 → IsStudy (derived_study study cs)
derived_is_study study cs taken h few = record {
  sentences = are_sentences_from study taken 0 cs h;
  limits = are_within_from study taken 0 cs h;
  own_names = have_names_from study 0 cs;
  few_axioms = let l = length_from study 0 cs in omega (arith, l, few);
  some_conflicts = taken.some_conflicts;
  few_conflicts = taken.few_conflicts;
}

pub number_within : (study : Question) (c : Cited) (a : Titled) → is_present study c ≡ true → slice_get study.axioms c.«axiom» ≡ Some a → c.number < instance_count study.size a.sentence
number_within study c a h e =
    ltb-true c.number (instance_count study.size a.sentence)
    (subst (λ o. nat_lt c.number (count_in study o) ≡ true) e (and_parts (nat_lt c.«axiom» (length study.axioms)) (nat_lt c.number (count_at study c.«axiom»)) h).1)

-- ---- one instance after another

pub axioms_step : (study : Question) (cs : List Cited) (k : ℕ) (d : Cited) (axioms : List Titled) → k < length cs → axioms ≡ axioms_from study 0 (take k cs)
    → axioms ++ axiom_of study (length axioms) (get_or cs k d) ∷ [] ≡ axioms_from study 0 (take (k + 1) cs)
axioms_step study cs k d axioms lt e =
    let up : suc k ≡ k + 1 = omega arith in
    let count : length axioms ≡ 0 + length (take k cs) = ap length e ∙ length_from study 0 (take k cs) ∙ omega arith in
    ap₂ (λ (xs : List Titled) (p : ℕ). xs ++ axiom_of study p (get_or cs k d) ∷ []) e count
    ∙ sym (from_more study 0 (take k cs) (get_or cs k d))
    ∙ ap (axioms_from study 0) (sym (take-suc cs k d lt) ∙ ap (λ (j : ℕ). take j cs) up)

pub few_axioms : (study : Question) (cs : List Cited) (k : ℕ) (axioms : List Titled) → axioms ≡ axioms_from study 0 (take k cs) → length axioms ≤ length cs
few_axioms study cs k axioms e =
    let count : length axioms ≡ length (take k cs) = ap length e ∙ length_from study 0 (take k cs) in
    let front = length-take k cs in
    omega (arith, count, front)

pub whole_study : (study : Question) (cs all : List Cited) (k : ℕ) (made : Question) → IsStudy study → list_all (is_present study) cs ≡ true → length cs ≤ 4000000
    → all ≡ cs → length all ≤ k → made.size ≡ study.size → made.conflicts ≡ study.conflicts → made.axioms ≡ axioms_from study 0 (take k all) → made ≡ derived_study study cs
whole_study study cs all k made taken h few same past size conflicts axioms =
    let whole : axioms_from study 0 (take k all) ≡ axioms_from study 0 cs = ap (axioms_from study 0) (take_all k all past ∙ same) in
    λ i. record { size = size i; conflicts = conflicts i; axioms = (axioms ∙ whole) i }
