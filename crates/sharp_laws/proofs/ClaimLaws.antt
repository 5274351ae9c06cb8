-- What a right sharp verdict claims holds: its story is accepted over the study of the listed instances, so no rule makes the bodies of all of these true.
use Rattle.std.proofs.Common.{◌≡◌, refl, sym, ap, ◌∙◌, subst, subst₂, ℕ, zero, suc, ◌<◌, ◌⊎◌, inl, inr, Bool, true, false, not, ◌&&◌, List, [], ◌∷◌, ◌++◌, map, length, Option, Some, None, arith, true≢false, cond, eq-eqb, lt-ltb, ltb-true}
use Rattle.std.specs.Prelude.{◌==◌, nat_lt, slice_get}
use Rattle.std.specs.List.{list_all, list_any}
use Rattle.std.specs.Option.{option_map_or}
use Rattle.std.specs.Cmp.Lexicographic.{pointwise}
use Rattle.std.proofs.lemmas.Bool.{and_parts, and_from, or_cases, or_left, or_right}
use Rattle.std.proofs.lemmas.List.{map-append}
use Rattle.std.proofs.lemmas.Option.{slice_get_within}
use Rattle.lists.proofs.TestLaws.{all_get, all_kept}
use Rattle.lists.proofs.PlaceLaws.{there_is}
use Rattle.vocab.specs.declared.literals.Literal.{Literal}
use Rattle.vocab.specs.Formula.{body_of}
use Rattle.vocab.specs.Limits.{bases_of, instance_count}
use Rattle.vocab.specs.Literal.{opposite_of}
use Rattle.vocab.specs.Size.{IsSize, sort_count}
use Rattle.vocab.specs.Study.{Question}
use Rattle.vocab.specs.Titled.{Titled}
use Rattle.meaning.specs.declared.cores.Witness.{Witness}
use Rattle.meaning.specs.declared.cores.Witness.TheVariants.{Rule, Open}
use Rattle.meaning.specs.declared.stories.Reason.{Reason}
use Rattle.meaning.specs.declared.stories.Reason.TheVariants.{Axiom as ByAxiom, Outcome as ByOutcome, Lemma as ByLemma}
use Rattle.meaning.specs.declared.stories.StoryStep.{StoryStep}
use Rattle.meaning.specs.declared.stories.Lemma.{Lemma}
use Rattle.meaning.specs.Instances.{instance_values, is_instance_true}
use Rattle.meaning.specs.Kleene.{partial_truth}
use Rattle.meaning.specs.Literals.{is_literal}
use Rattle.meaning.specs.Space.{below, number_of}
use Rattle.meaning.specs.Stories.{is_false, is_claim_false, is_instance_false, refutes, is_decided, are_new, has_literals, are_forced, is_lemma, is_story_from, is_story}
use Rattle.meaning.specs.Truth.{is_rule, is_axiom_true, is_true_at, satisfies}
use Rattle.meaning.specs.Written.{write_out}
use Rattle.meaning.proofs.DigitLaws.{are_one_to_one}
use Rattle.meaning.proofs.SpaceLaws.{all_from, any_from}
use Rattle.meaning.proofs.StoryLaws.{no_rule}
use Rattle.closing.specs.Closed.{closed_body}
use Rattle.closing.proofs.ClosedLaws.{body_written, body_true}
use Rattle.closing.proofs.SentenceLaws.{closed_prefix, closed_own_body}
use Rattle.verdicts.specs.Claims.{HasNoRule}
use Rattle.verdicts.specs.FirstFault.{Confirmed}
use Rattle.verdicts.specs.Laws.{is_rule_given}
use Rattle.verdicts.proofs.WordLaws.{in_below}
use Rattle.lists.proofs.Members.{flat_map_in, map_in, filter_in, IsIn}
use Rattle.sharp_verdicts.specs.declared.instances.Cited.{Cited}
use Rattle.sharp_verdicts.specs.Derived.{instance_name, closed_at, axiom_of, axioms_from}
use Rattle.sharp_verdicts.specs.Instances.{same_instance, has_instance, others_than, reasons_of, is_axiom_told, core_of, is_present, count_at, values_at, number_at, cites, is_told, all_instances, instances_of, is_true_of}
use Rattle.sharp_verdicts.specs.Right.{Pointed, satisfies_instances, is_mark, IsSharpRight}
use Rattle.sharp_verdicts.proofs.DerivedLaws.{derived_get}
use Rattle.sharp_verdicts.specs.SharpJudge.{sharp_answer}
use Rattle.sharp_laws.specs.Laws.{HasNoRuleOfAll, SharpClaims}
use Rattle.sharp_laws.proofs.JudgeLaws.{judge_sound}
use Rattle.sharp_verdicts.proofs.InstanceLaws.{same_is, is_same}

-- ---- places of instances

-- where an instance stands in a list
abbrev place_in : List Cited → Cited → ℕ
place_in [] c = 0
place_in (d ∷ cs) c = cond (same_instance d c) 0 (suc (place_in cs c))

place_there : (cs : List Cited) (c : Cited) → IsIn cs c → slice_get cs (place_in cs c) ≡ Some c
place_there [] c i = absurd i
place_there (d ∷ cs) c i = by (same_instance d c) refl i (place_there cs c)
  where
    by : (b : Bool) → same_instance d c ≡ b → (d ≡ c) ⊎ IsIn cs c → (IsIn cs c → slice_get cs (place_in cs c) ≡ Some c) → slice_get (d ∷ cs) (cond b 0 (suc (place_in cs c))) ≡ Some c
    by true e i ih = ap Some (same_is d c e)
    by false e (inl same) ih = absurd (true≢false (sym (is_same d c same) ∙ e))
    by false e (inr j) ih = ih j

-- ---- a story over its study, as one over the study of the instances that it cites

module _ (study : Question) (cs : List Cited) where
  abbrev closed_axioms : List Titled
  closed_axioms = axioms_from study 0 cs

  abbrev everywhere : List ℕ
  everywhere = below (length cs)

  -- the instance that a reason cites is an axiom of its own
  abbrev reason_closed : Reason → Reason
  reason_closed (ByAxiom k values) = ByAxiom (place_in cs (record { «axiom» = k; number = number_at study k values })) []
  reason_closed (ByOutcome p) = ByOutcome p
  reason_closed (ByLemma j) = ByLemma j

  abbrev step_closed : StoryStep → StoryStep
  step_closed step = record { literal = step.literal; reason = reason_closed step.reason }

  abbrev lemma_closed : Lemma → Lemma
  lemma_closed lemma = record { suppose = lemma.suppose; steps = map step_closed lemma.steps; last = reason_closed lemma.last }

  -- the instances that some reasons cite are listed
  abbrev AreListed : List Reason → Type 0
  AreListed rs = (c : Cited) → is_present study c ≡ true → list_any (cites study c) rs ≡ true → IsIn cs c

  -- ---- reasons

  -- the closed body of a listed instance is false where the body is at the values
  closed_false : (known : List Literal) (name : List ℕ) (a : Titled) (values : List ℕ) → is_false (partial_truth known (write_out study.size (body_of a.sentence) values)) ≡ true
      → is_instance_false study.size known (Some (record { name = name; sentence = closed_body a values })) [] ≡ true
  closed_false known name a values h =
      let none : pointwise nat_lt [] (bases_of study.size (closed_body a values)) ≡ true = ap (λ sorts. pointwise nat_lt [] (map (sort_count study.size) sorts)) (closed_prefix a values) in
      let same : write_out study.size (body_of (closed_body a values)) [] ≡ write_out study.size (body_of a.sentence) values =
      ap (λ f. write_out study.size f []) (closed_own_body a values) ∙ body_written study.size a values in
      and_from _ _ none (ap (λ w. is_false (partial_truth known w)) same ∙ h)

  axiom_closed : (earlier : List Lemma) (known : List Literal) (k : ℕ) (values : List ℕ) (o : Option Titled) → slice_get study.axioms k ≡ o
      → ((c : Cited) → is_present study c ≡ true → cites study c (ByAxiom k values) ≡ true → IsIn cs c) → is_instance_false study.size known o values ≡ true
      → refutes study.size closed_axioms everywhere earlier known (reason_closed (ByAxiom k values)) ≡ true
  axiom_closed earlier known k values None e listed h = absurd (true≢false (sym h))
  axiom_closed earlier known k values (Some a) e listed h =
      let p = and_parts (pointwise nat_lt values (bases_of study.size a.sentence)) (is_false (partial_truth known (write_out study.size (body_of a.sentence) values))) h in
      let one = are_one_to_one (bases_of study.size a.sentence) in
      let number : number_at study k values ≡ number_of (bases_of study.size a.sentence) values = ap (λ o. option_map_or (λ (x : Titled). number_of (bases_of study.size x.sentence) values) o 0) e in
      let count : count_at study k ≡ instance_count study.size a.sentence = ap (λ o. option_map_or (λ (x : Titled). instance_count study.size x.sentence) o 0) e in
      let few : number_of (bases_of study.size a.sentence) values < instance_count study.size a.sentence = one.number values p.0 in
      let within : number_at study k values < count_at study k = omega (arith, number, count, few) in
      let present : is_present study c ≡ true = and_from _ _ (lt-ltb k _ (slice_get_within study.axioms k a e)) (lt-ltb _ _ within) in
      let cited : cites study c (ByAxiom k values) ≡ true = and_from _ _ (eq-eqb k k refl) (eq-eqb c.number c.number refl) in
      let get = place_there cs c (listed c present cited) in
      let there = any_from (λ x. x == place_in cs c) (length cs) 0 (place_in cs c) (eq-eqb (place_in cs c) (place_in cs c) refl) (omega arith) (omega (arith, slice_get_within cs (place_in cs c) c get)) in
      let body : closed_at (slice_get study.axioms k) (values_at study c) ≡ closed_body a values =
      ap (λ o. closed_at o (option_map_or (λ (x : Titled). instance_values study.size x.sentence (number_at study k values)) o [])) e
      ∙ ap (λ n. closed_body a (instance_values study.size a.sentence n)) number
      ∙ ap (closed_body a) (one.of_number values p.0) in
      let fails : is_instance_false study.size known (Some (axiom_of study (place_in cs c) c)) [] ≡ true =
      subst (λ f. is_instance_false study.size known (Some (record { name = instance_name (place_in cs c); sentence = f })) [] ≡ true) (sym body) (closed_false known (instance_name (place_in cs c)) a values p.1) in
      and_from _ _ there (subst (λ o. is_instance_false study.size known o [] ≡ true) (sym (derived_get study cs (place_in cs c) c get)) fails)
    where
      c : Cited
      c = record { «axiom» = k; number = number_at study k values }

  claim_same : (known : List Literal) (earlier : List Lemma) (j : ℕ) → is_claim_false known (slice_get earlier j) ≡ true → is_claim_false known (slice_get (map lemma_closed earlier) j) ≡ true
  claim_same known [] j h = h
  claim_same known (l ∷ earlier) zero h = h
  claim_same known (l ∷ earlier) (suc j) h = claim_same known earlier j h

  module _ (core : List ℕ) where
    refuted_closed : (earlier : List Lemma) (known : List Literal) (r : Reason) → ((c : Cited) → is_present study c ≡ true → cites study c r ≡ true → IsIn cs c)
        → refutes study.size study.axioms core earlier known r ≡ true → refutes study.size closed_axioms everywhere (map lemma_closed earlier) known (reason_closed r) ≡ true
    refuted_closed earlier known (ByAxiom k values) listed h =
        axiom_closed (map lemma_closed earlier) known k values (slice_get study.axioms k) refl listed (and_parts (list_any (λ c. c == k) core) (is_instance_false study.size known (slice_get study.axioms k) values) h).1
    refuted_closed earlier known (ByOutcome p) listed h = h
    refuted_closed earlier known (ByLemma j) listed h = claim_same known earlier j h

    -- ---- lemmas

    forced_closed : (earlier : List Lemma) (last : Reason) (known : List Literal) (steps : List StoryStep) → AreListed (map (λ (s : StoryStep). s.reason) steps ++ last ∷ [])
        → are_forced study.size study.axioms core earlier last known steps ≡ true
        → are_forced study.size closed_axioms everywhere (map lemma_closed earlier) (reason_closed last) known (map step_closed steps) ≡ true
    forced_closed earlier last known [] listed h = refuted_closed earlier known last (λ c present e. listed c present (or_left _ _ e)) h
    forced_closed earlier last known (step ∷ steps) listed h =
        let a = and_parts (not (is_decided known step.literal) && refutes study.size study.axioms core earlier (known ++ opposite_of step.literal ∷ []) step.reason) (are_forced study.size study.axioms core earlier last (known ++ step.literal ∷ []) steps) h in
        let b = and_parts (not (is_decided known step.literal)) (refutes study.size study.axioms core earlier (known ++ opposite_of step.literal ∷ []) step.reason) a.0 in
        and_from _ _ (and_from _ _ b.0 (refuted_closed earlier (known ++ opposite_of step.literal ∷ []) step.reason (λ c present e. listed c present (or_left _ _ e)) b.1))
        (forced_closed earlier last (known ++ step.literal ∷ []) steps (λ c present e. listed c present (or_right (cites study c step.reason) _ e)) a.1)

    literals_same : (steps : List StoryStep) → list_all (λ (s : StoryStep). is_literal study.size s.literal) (map step_closed steps) ≡ list_all (λ (s : StoryStep). is_literal study.size s.literal) steps
    literals_same [] = refl
    literals_same (s ∷ steps) = ap (λ b. is_literal study.size s.literal && b) (literals_same steps)

    lemma_is_closed : (earlier : List Lemma) (lemma : Lemma) → AreListed (reasons_of lemma) → is_lemma study.size study.axioms core earlier lemma ≡ true
        → is_lemma study.size closed_axioms everywhere (map lemma_closed earlier) (lemma_closed lemma) ≡ true
    lemma_is_closed earlier lemma listed h =
        let a = and_parts (has_literals study.size lemma && are_new [] lemma.suppose) (are_forced study.size study.axioms core earlier lemma.last lemma.suppose lemma.steps) h in
        let b = and_parts (has_literals study.size lemma) (are_new [] lemma.suppose) a.0 in
        let c = and_parts (list_all (is_literal study.size) lemma.suppose) (list_all (λ (s : StoryStep). is_literal study.size s.literal) lemma.steps) b.0 in
        and_from _ _ (and_from _ _ (and_from _ _ c.0 (literals_same lemma.steps ∙ c.1)) b.1) (forced_closed earlier lemma.last lemma.suppose lemma.steps listed a.1)

    story_is_closed : (earlier story : List Lemma) → ((c : Cited) → is_present study c ≡ true → is_told study story c ≡ true → IsIn cs c) → is_story_from study.size study.axioms core earlier story ≡ true
        → is_story_from study.size closed_axioms everywhere (map lemma_closed earlier) (map lemma_closed story) ≡ true
    story_is_closed earlier [] listed h = absurd cc
    story_is_closed earlier (lemma ∷ []) listed h =
        let a = and_parts (is_lemma study.size study.axioms core earlier lemma) (length lemma.suppose == 0) h in
        and_from _ _ (lemma_is_closed earlier lemma (λ c present e. listed c present (or_left _ _ e)) a.0) a.1
    story_is_closed earlier (lemma ∷ next ∷ rest) listed h =
        let a = and_parts (is_lemma study.size study.axioms core earlier lemma) (is_story_from study.size study.axioms core (earlier ++ lemma ∷ []) (next ∷ rest)) h in
        and_from _ _ (lemma_is_closed earlier lemma (λ c present e. listed c present (or_left _ _ e)) a.0)
        (subst (λ ls. is_story_from study.size closed_axioms everywhere ls (map lemma_closed (next ∷ rest)) ≡ true) (map-append lemma_closed earlier (lemma ∷ []))
        (story_is_closed (earlier ++ lemma ∷ []) (next ∷ rest) (λ c present e. listed c present (or_right (list_any (cites study c) (reasons_of lemma)) _ e)) a.1))

  -- ---- rules of the instances

  -- the closed body of an instance is true of the rules of which its body is
  closed_true : (table : List ℕ) (c : Cited) (o : Option Titled)
      → option_map_or (λ (a : Titled). is_instance_true study.size table a.sentence c.number) o false ≡ true
      → is_true_at study.size table (closed_at o (option_map_or (λ (a : Titled). instance_values study.size a.sentence c.number) o [])) [] ≡ true
  closed_true table c None h = absurd (true≢false (sym h))
  closed_true table c (Some a) h = body_true study.size a (instance_values study.size a.sentence c.number) table ∙ h

  satisfies_closed : (table : List ℕ) → satisfies_instances study cs table ≡ true → satisfies study.size closed_axioms everywhere table ≡ true
  satisfies_closed table h =
      let p = and_parts (is_rule study.size table) (list_all (is_true_of study table) cs) h in
      and_from _ _ p.0 (all_from (λ k. is_axiom_true study.size table (slice_get closed_axioms k)) (length cs) 0 (λ k low high. at k (omega (arith, high)) p.1))
    where
      at : (k : ℕ) → k < length cs → list_all (is_true_of study table) cs ≡ true → is_axiom_true study.size table (slice_get closed_axioms k) ≡ true
      at k lt all =
          let c = there_is cs k lt in
          let body = closed_true table c.0 (slice_get study.axioms c.0.«axiom») (all_get (is_true_of study table) cs k c.0 all c.1) in
          subst (λ o. is_axiom_true study.size table o ≡ true) (sym (derived_get study cs k c.0 c.1)) body

-- ---- what is claimed

module _ (study : Question) where
  present_listed : (story : List Lemma) (c : Cited) → is_present study c ≡ true → is_told study story c ≡ true → IsIn (instances_of study story) c
  present_listed story c present told =
      let p = and_parts (nat_lt c.«axiom» (length study.axioms)) (nat_lt c.number (count_at study c.«axiom»)) present in
      let place = in_below (length study.axioms) c.«axiom» (ltb-true c.«axiom» _ p.0) in
      let number = in_below (count_at study c.«axiom») c.number (ltb-true c.number _ p.1) in
      let here = map_in (λ n. at c.«axiom» n) (below (count_at study c.«axiom»)) c.number number in
      filter_in (is_told study story) (all_instances study) c (flat_map_in (λ k. map (λ n. at k n) (below (count_at study k))) (below (length study.axioms)) c.«axiom» c place here) told
    where
      at : ℕ → ℕ → Cited
      at k n = record { «axiom» = k; number = n }

  -- no rule makes the bodies of all instances that an accepted story cites true
  none_of_all : IsSize study.size → (core : List ℕ) (story : List Lemma) → is_story study.size study.axioms core story ≡ true → HasNoRuleOfAll study (instances_of study story)
  none_of_all taken core story accepted table h =
      let cs = instances_of study story in
      no_rule study.size taken (axioms_from study 0 cs) (below (length cs)) (map (lemma_closed study cs) story)
      (story_is_closed study cs core [] story (present_listed story) accepted) table (satisfies_closed study cs table h)

  -- the mark of an instance is a rule of the others
  rule_of_others : (whole cs : List Cited) (ms : List Witness) (c : Cited) → pointwise (is_mark study whole) cs ms ≡ true → list_all is_rule_given ms ≡ true → has_instance cs c ≡ true
      → (table : List ℕ) × (satisfies_instances study (others_than whole c) table ≡ true)
  rule_of_others whole [] ms c h given here = absurd (true≢false (sym here))
  rule_of_others whole (d ∷ cs) [] c h given here = absurd (true≢false (sym h))
  rule_of_others whole (d ∷ cs) (Open limit ∷ ms) c h given here = absurd (true≢false (sym given))
  rule_of_others whole (d ∷ cs) (Rule table ∷ ms) c h given here =
      let p = and_parts (satisfies_instances study (others_than whole d) table) (pointwise (is_mark study whole) cs ms) h in
      elim (or_cases (same_instance c d) (has_instance cs c) here) [
        | inl same ↦ (table, subst (λ x. satisfies_instances study (others_than whole x) table ≡ true) (sym (same_is c d same)) p.0)
        | inr later ↦ rule_of_others whole cs ms c p.1 given later
      ]

  -- the rule that is a mark
  rule_at : (whole cs : List Cited) (ms : List Witness) (k : ℕ) (c : Cited) (table : List ℕ) → pointwise (is_mark study whole) cs ms ≡ true → slice_get cs k ≡ Some c → slice_get ms k ≡ Some (Rule table)
      → satisfies_instances study (others_than whole c) table ≡ true
  rule_at whole [] ms k c table h e f = absurd (cc)
  rule_at whole (d ∷ cs) [] k c table h e f = absurd (cc)
  rule_at whole (d ∷ cs) (m ∷ ms) zero c table h e f =
      let place : d ≡ c = cc in
      let mark : m ≡ Rule table = cc in
      let here = (and_parts (is_mark study whole d m) (pointwise (is_mark study whole) cs ms) h).0 in
      subst₂ (λ x n. is_mark study whole x n ≡ true) place mark here
  rule_at whole (d ∷ cs) (m ∷ ms) (suc k) c table h e f = rule_at whole cs ms k c table (and_parts (is_mark study whole d m) (pointwise (is_mark study whole) cs ms) h).1 e f

  -- where no rule satisfies the axioms that a story cites, none satisfies all
  none_of_axioms : (core : List ℕ) (story : List Lemma) → core ≡ core_of study story → HasNoRule study core → HasNoRule study (below (length study.axioms))
  none_of_axioms core story same none table h =
      let p = and_parts (is_rule study.size table) _ h in
      let kept = all_kept (λ k. is_axiom_true study.size table (slice_get study.axioms k)) (is_axiom_told story) (below (length study.axioms)) p.1 in
      none table (and_from _ _ p.0 (subst (λ (ks : List ℕ). list_all (λ k. is_axiom_true study.size table (slice_get study.axioms k)) ks ≡ true) (sym same) kept))

  -- what a right sharp verdict claims holds
  pub claims_hold : IsSize study.size → (v : Pointed) → IsSharpRight study v → SharpClaims study v
  claims_hold taken v right =
      let none = no_rule study.size taken study.axioms v.core v.story right.accepted in
      record {
        none = subst (HasNoRuleOfAll study) (sym right.instances) (none_of_all taken v.core v.story right.accepted);
        none_of_core = none;
        none_of_study = none_of_axioms v.core v.story right.core none;
        rules = λ k c table e f. rule_at v.instances v.instances v.marks k c table right.marks e f;
        needed = λ given c here. rule_of_others v.instances v.instances v.marks c right.marks given here;
      }

  pub confirmed_hold : IsSize study.size → (text : List ℕ) (v : Pointed) → sharp_answer study text ≡ Confirmed v → SharpClaims study v
  confirmed_hold taken text v e = claims_hold taken v (judge_sound study text v e).right
