-- The listed instances, and their marks, which are read one after the other.
use Rattle.std.proofs.Common.{◌≡◌, refl, sym, ap, ap₂, ◌∙◌, subst, ℕ, ◌<◌, ◌≤◌, Bool, true, false, ◌&&◌, List, [], ◌∷◌, ◌++◌, map, length, Option, Some, None, arith, true≢false, eqb-true, eq-eqb, ltb-true, append_assoc, append-nil}
use Rattle.std.specs.Prelude.{◌==◌, nat_lt, slice_get}
use Rattle.std.specs.Cmp.Lexicographic.{pointwise}
use Rattle.std.specs.Option.{option_map_or}
use Rattle.std.proofs.lemmas.Bool.{and_parts, and_from}
use Rattle.vocab.specs.Limits.{bases_of, instance_count}
use Rattle.vocab.specs.Size.{sort_count}
use Rattle.vocab.specs.Study.{Question}
use Rattle.vocab.specs.Titled.{Titled}
use Rattle.meaning.specs.declared.cores.Witness.{Witness}
use Rattle.meaning.specs.declared.stories.Lemma.{Lemma}
use Rattle.meaning.specs.declared.stories.Reason.TheVariants.{Axiom as ByAxiom}
use Rattle.meaning.specs.Instances.{instance_values}
use Rattle.meaning.specs.Space.{number_of}
use Rattle.meaning.proofs.DigitLaws.{are_one_to_one}
use Rattle.verdicts.specs.Lines.{sorts_of}
use Rattle.lists.proofs.Members.{in_filter, in_at, IsIn}
use Rattle.sharp_verdicts.specs.declared.instances.Cited.{Cited}
use Rattle.sharp_verdicts.specs.Instances.{count_at, is_present, values_at, number_at, cites, is_told, all_instances, instances_of}
use Rattle.sharp_verdicts.specs.SharpLines.{reason_at, mark_lines, all_mark_lines}
use Rattle.sharp_laws.proofs.FitLaws.{IsCited}
use Rattle.sharp_verdicts.proofs.InstanceLaws.{all_present}

-- ---- marks so far

-- marks of the first so many instances pass a test
abbrev pub are_marks : (Cited → Witness → Bool) → List Cited → List Witness → Bool
are_marks f instances [] = true
are_marks f [] (m ∷ marks) = false
are_marks f (c ∷ instances) (m ∷ marks) = f c m && are_marks f instances marks

pub marks_within : (f : Cited → Witness → Bool) (cs : List Cited) (ms : List Witness) → are_marks f cs ms ≡ true → length ms ≤ length cs
marks_within f cs [] h = omega arith
marks_within f [] (m ∷ ms) h = absurd (true≢false (sym h))
marks_within f (c ∷ cs) (m ∷ ms) h = let r = marks_within f cs ms (and_parts (f c m) (are_marks f cs ms) h).1 in omega (arith, r)

pub marks_full : (f : Cited → Witness → Bool) (cs : List Cited) (ms : List Witness) → are_marks f cs ms ≡ true → length ms ≡ length cs → pointwise f cs ms ≡ true
marks_full f [] [] h e = refl
marks_full f (c ∷ cs) [] h e = absurd (omega (arith, e))
marks_full f [] (m ∷ ms) h e = absurd (true≢false (sym h))
marks_full f (c ∷ cs) (m ∷ ms) h e = let p = and_parts (f c m) (are_marks f cs ms) h in and_from _ _ p.0 (marks_full f cs ms p.1 (omega (arith, e)))

pub marks_snoc : (f : Cited → Witness → Bool) (cs : List Cited) (ms : List Witness) (c : Cited) (m : Witness) → slice_get cs (length ms) ≡ Some c
    → are_marks f cs ms ≡ true → f c m ≡ true → are_marks f cs (ms ++ m ∷ []) ≡ true
marks_snoc f [] ms c m e h k = absurd cc
marks_snoc f (d ∷ cs) [] c m e h k = let same : d ≡ c = cc in and_from _ _ (subst (λ x. f x m ≡ true) (sym same) k) refl
marks_snoc f (d ∷ cs) (n ∷ ms) c m e h k = let p = and_parts (f d n) (are_marks f cs ms) h in and_from _ _ p.0 (marks_snoc f cs ms c m e p.1 k)

pub no_marks : (study : Question) (cs : List Cited) → all_mark_lines study cs [] ≡ []
no_marks study [] = refl
no_marks study (c ∷ cs) = refl

pub lines_snoc : (study : Question) (cs : List Cited) (ms : List Witness) (c : Cited) (m : Witness) → slice_get cs (length ms) ≡ Some c
    → all_mark_lines study cs (ms ++ m ∷ []) ≡ all_mark_lines study cs ms ++ mark_lines study c m
lines_snoc study [] ms c m e = absurd cc
lines_snoc study (d ∷ cs) [] c m e =
    let same : d ≡ c = cc in
    ap (λ ls. mark_lines study d m ++ ls) (no_marks study cs) ∙ append-nil (mark_lines study d m) ∙ ap (λ x. mark_lines study x m) same
lines_snoc study (d ∷ cs) (n ∷ ms) c m e =
    ap (λ ls. mark_lines study d n ++ ls) (lines_snoc study cs ms c m e) ∙ sym (append_assoc (mark_lines study d n) (all_mark_lines study cs ms) (mark_lines study c m))

-- ---- the instance that a reason cites

module _ (study : Question) where
  abbrev values_of : Option Titled → ℕ → List ℕ
  values_of o number = option_map_or (λ (a : Titled). instance_values study.size a.sentence number) o []

  abbrev number_in : Option Titled → List ℕ → ℕ
  number_in o values = option_map_or (λ (a : Titled). number_of (bases_of study.size a.sentence) values) o 0

  abbrev count_in : Option Titled → ℕ
  count_in o = option_map_or (λ (a : Titled). instance_count study.size a.sentence) o 0

  abbrev in_range : Option Titled → List ℕ → Bool
  in_range o values = pointwise nat_lt values (map (sort_count study.size) (sorts_of o))

  -- values in range are those of the instance that has their number
  same_values : (o : Option Titled) (values : List ℕ) → in_range o values ≡ true → values_of o (number_in o values) ≡ values
  same_values None [] h = refl
  same_values None (v ∷ values) h = absurd (true≢false (sym h))
  same_values (Some a) values h = (are_one_to_one (bases_of study.size a.sentence)).of_number values h

  -- a reason that cites an instance is the one that is written of it
  pub reason_same : (c : Cited) (k : ℕ) (values : List ℕ) → IsCited study (ByAxiom k values) → cites study c (ByAxiom k values) ≡ true → reason_at study c ≡ ByAxiom k values
  reason_same c k values h e =
      let p = and_parts (c.«axiom» == k) (c.number == number_at study k values) e in
      let place : c.«axiom» ≡ k = eqb-true _ _ p.0 in
      let number : c.number ≡ number_at study k values = eqb-true _ _ p.1 in
      let range = (and_parts (nat_lt k (length study.axioms)) (in_range (slice_get study.axioms k) values) h).1 in
      let here : values_at study c ≡ values =
      ap (λ (j : ℕ). values_of (slice_get study.axioms j) c.number) place
      ∙ ap (values_of (slice_get study.axioms k)) number
      ∙ same_values (slice_get study.axioms k) values range in
      ap₂ (λ (j : ℕ) (vs : List ℕ). ByAxiom j vs) place here

  -- and an instance that is there is cited so
  values_in : (o : Option Titled) (number : ℕ) → number < count_in o → (in_range o (values_of o number) ≡ true) × (number_in o (values_of o number) ≡ number)
  values_in None number lt = absurd (omega (arith, lt))
  values_in (Some a) number lt =
      let one = are_one_to_one (bases_of study.size a.sentence) in
      (one.digits number lt, one.of_digits number lt)

  pub reason_cites : (c : Cited) → is_present study c ≡ true → IsCited study (reason_at study c) × (cites study c (reason_at study c) ≡ true)
  reason_cites c h =
      let p = and_parts (nat_lt c.«axiom» (length study.axioms)) (nat_lt c.number (count_at study c.«axiom»)) h in
      let v = values_in (slice_get study.axioms c.«axiom») c.number (ltb-true c.number (count_at study c.«axiom») p.1) in
      (and_from _ _ p.0 v.0, and_from _ _ (eq-eqb c.«axiom» c.«axiom» refl) (eq-eqb c.number _ (sym v.1)))

  -- ---- listed instances

  pub listed_present : (story : List Lemma) (c : Cited) → IsIn (instances_of study story) c → is_present study c ≡ true
  listed_present story c i = all_present study c (in_filter (is_told study story) (all_instances study) c i).0

  pub next_present : (story : List Lemma) (n : ℕ) (c : Cited) → slice_get (instances_of study story) n ≡ Some c → is_present study c ≡ true
  next_present story n c e = listed_present story c (in_at (instances_of study story) n c e)
