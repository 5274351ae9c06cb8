-- A story over the study of some instances is accepted over their study, once its reasons are named back.
use Rattle.std.proofs.Common.{◌≡◌, refl, sym, ◌∙◌, ap, ap₂, subst, ℕ, zero, suc, ◌+◌, ◌<◌, Bool, true, false, not, ◌&&◌, ◌||◌, List, [], ◌∷◌, ◌++◌, map, filter, length, arith, Option, Some, None, true≢false, eq-eqb, eqb-true, ltb-true}
use Rattle.std.specs.Prelude.{◌==◌, if◌then◌else◌, nat_lt, slice_get}
use Rattle.std.specs.List.{list_all, list_any}
use Rattle.std.specs.Cmp.Lexicographic.{pointwise}
use Rattle.std.specs.Option.{option_map_or}
use Rattle.std.proofs.lemmas.Bool.{and_parts, and_from, or_left, or_right}
use Rattle.std.proofs.lemmas.List.{map-append}
use Rattle.std.proofs.lemmas.Option.{slice_get_within}
use Rattle.lists.proofs.TestLaws.{all_get}
use Rattle.vocab.specs.declared.literals.Literal.{Literal}
use Rattle.vocab.specs.Formula.{body_of}
use Rattle.vocab.specs.Limits.{bases_of, instance_count}
use Rattle.vocab.specs.Literal.{opposite_of}
use Rattle.vocab.specs.Size.{Extent, sort_count}
use Rattle.vocab.specs.Study.{Question}
use Rattle.vocab.specs.Titled.{Titled}
use Rattle.meaning.specs.declared.stories.Reason.{Reason}
use Rattle.meaning.specs.declared.stories.Reason.TheVariants.{Axiom as ByAxiom, Outcome as ByOutcome, Lemma as ByLemma}
use Rattle.meaning.specs.declared.stories.StoryStep.{StoryStep}
use Rattle.meaning.specs.declared.stories.Lemma.{Lemma}
use Rattle.meaning.specs.Instances.{instance_values}
use Rattle.meaning.specs.Kleene.{partial_truth}
use Rattle.meaning.specs.Literals.{is_literal}
use Rattle.meaning.specs.Space.{up_from, below}
use Rattle.meaning.specs.Stories.{is_false, is_claim_false, is_instance_false, refutes, is_decided, are_new, has_literals, are_forced, is_lemma, is_story_from, is_story}
use Rattle.meaning.specs.Written.{write_out}
use Rattle.meaning.proofs.DigitLaws.{are_one_to_one}
use Rattle.closing.specs.Closed.{closed_body}
use Rattle.closing.proofs.ClosedLaws.{body_written}
use Rattle.closing.proofs.SentenceLaws.{closed_prefix, closed_own_body}
use Rattle.sharp_verdicts.specs.declared.instances.Cited.{Cited}
use Rattle.sharp_verdicts.specs.Derived.{closed_at, axioms_from, instance_name}
use Rattle.sharp_verdicts.specs.Instances.{is_present, count_at, reasons_of, cites_axiom, is_axiom_told, core_of}
use Rattle.sharp_verdicts.proofs.DerivedLaws.{get_none, derived_get}
use Rattle.instance_studies.proofs.StudyLaws.{number_within}
use Rattle.instance_stories.specs.Named.{reason_citing, named_back, step_named, lemma_named, story_named}

-- ---- places

-- a place below a number is among those below it
there_from : (a n k : ℕ) → k < n → list_any (λ c. c == a + k) (up_from a n) ≡ true
there_from a zero k lt = absurd (omega arith)
there_from a (suc n) zero lt = or_left _ _ (eq-eqb a (a + 0) (omega arith))
there_from a (suc n) (suc k) lt =
    let over : suc a + k ≡ a + suc k = omega arith in
    or_right (a == a + suc k) _ (subst (λ (x : ℕ). list_any (λ c. c == x) (up_from (suc a) n) ≡ true) over (there_from (suc a) n k (omega (arith, lt))))

pub there : (n k : ℕ) → k < n → list_any (λ c. c == k) (below n) ≡ true
there n k lt = let same : 0 + k ≡ k = omega arith in subst (λ (x : ℕ). list_any (λ c. c == x) (below n) ≡ true) same (there_from 0 n k lt)

-- what passes a test stays
pub kept_there : (t : ℕ → Bool) (xs : List ℕ) (k : ℕ) → list_any (λ c. c == k) xs ≡ true → t k ≡ true → list_any (λ c. c == k) (filter t xs) ≡ true
kept_there t [] k h e = absurd cc
kept_there t (x ∷ xs) k h e = by (x == k) (t x) refl refl h (λ later. kept_there t xs k later e)
  where
    by : (b c : Bool) → (x == k) ≡ b → t x ≡ c → (b || list_any (λ y. y == k) xs) ≡ true → (list_any (λ y. y == k) xs ≡ true → list_any (λ y. y == k) (filter t xs) ≡ true)
        → list_any (λ y. y == k) (if c then x ∷ filter t xs else filter t xs) ≡ true
    by true true p q g ih = or_left _ _ p
    by true false p q g ih = let same = eqb-true x k p in absurd (true≢false (sym (ap t same ∙ e) ∙ q))
    by false true p q g ih = or_right (x == k) _ (ih g)
    by false false p q g ih = ih g

module _ (study : Question) where
  -- ---- reasons

  no_values : (values : List ℕ) → pointwise nat_lt values [] ≡ true → values ≡ []
  no_values [] h = refl
  no_values (v ∷ values) h = absurd cc

  -- the closed body of an instance is false where the body is at its values
  false_back : (known : List Literal) (a : Titled) (vals : List ℕ) (name values : List ℕ) → is_instance_false study.size known (Some (record { name = name; sentence = closed_body a vals })) values ≡ true
      → is_false (partial_truth known (write_out study.size (body_of a.sentence) vals)) ≡ true
  false_back known a vals name values h =
      let closed = closed_body a vals in
      let e = and_parts (pointwise nat_lt values (bases_of study.size closed)) (is_false (partial_truth known (write_out study.size (body_of closed) values))) h in
      let none : bases_of study.size closed ≡ [] = ap (map (sort_count study.size)) (closed_prefix a vals) in
      let empty : values ≡ [] = no_values values (subst (λ (bs : List ℕ). pointwise nat_lt values bs ≡ true) none e.0) in
      let same : write_out study.size (body_of closed) values ≡ write_out study.size (body_of a.sentence) vals = ap₂ (write_out study.size) (closed_own_body a vals) empty ∙ body_written study.size a vals in
      subst (λ w. is_false (partial_truth known w) ≡ true) same e.1

  -- by what stands at the place of its axiom
  instance_back : (known : List Literal) (c : Cited) (name values : List ℕ) → is_present study c ≡ true → (o : Option Titled) → slice_get study.axioms c.«axiom» ≡ o
      → is_instance_false study.size known (Some (record { name = name; sentence = closed_at o (option_map_or (λ (a : Titled). instance_values study.size a.sentence c.number) o []) })) values ≡ true
      → is_instance_false study.size known o (option_map_or (λ (a : Titled). instance_values study.size a.sentence c.number) o []) ≡ true
  instance_back known c name values h None e f =
      let lt = ltb-true c.number 0 (subst (λ o. nat_lt c.number (option_map_or (λ (a : Titled). instance_count study.size a.sentence) o 0) ≡ true) e (and_parts (nat_lt c.«axiom» (length study.axioms)) (nat_lt c.number (count_at study c.«axiom»)) h).1) in
      absurd (omega (arith, lt))
  instance_back known c name values h (Some a) e f =
      let lt = number_within study c a h e in
      and_from _ _ ((are_one_to_one (bases_of study.size a.sentence)).digits c.number lt) (false_back known a (instance_values study.size a.sentence c.number) name values f)

  module _ (instances : List Cited) (present : list_all (is_present study) instances ≡ true) (dcore : List ℕ) where
    abbrev daxioms : List Titled
    daxioms = axioms_from study 0 instances

    abbrev everywhere : List ℕ
    everywhere = below (length study.axioms)

    axiom_back : (known : List Literal) (i : ℕ) (values : List ℕ) (earlier : List Lemma) → (o : Option Cited) → slice_get instances i ≡ o → is_instance_false study.size known (slice_get daxioms i) values ≡ true
        → refutes study.size study.axioms everywhere earlier known (reason_citing study o) ≡ true
    axiom_back known i values earlier None e h =
        absurd (true≢false (sym h ∙ ap (λ o. is_instance_false study.size known o values) (get_none study 0 instances i e)))
    axiom_back known i values earlier (Some c) e h =
        let here = all_get (is_present study) instances i c present e in
        let lt = ltb-true c.«axiom» (length study.axioms) (and_parts (nat_lt c.«axiom» (length study.axioms)) (nat_lt c.number (count_at study c.«axiom»)) here).0 in
        let closed = subst (λ o. is_instance_false study.size known o values ≡ true) (derived_get study instances i c e) h in
        and_from _ _ (there (length study.axioms) c.«axiom» lt) (instance_back known c (instance_name i) values here (slice_get study.axioms c.«axiom») refl closed)

    claim_same : (known : List Literal) (earlier : List Lemma) (j : ℕ) → is_claim_false known (slice_get earlier j) ≡ true → is_claim_false known (slice_get (map (lemma_named study instances) earlier) j) ≡ true
    claim_same known [] j h = h
    claim_same known (l ∷ earlier) zero h = h
    claim_same known (l ∷ earlier) (suc j) h = claim_same known earlier j h

    refuted_back : (earlier : List Lemma) (known : List Literal) (r : Reason) → refutes study.size daxioms dcore earlier known r ≡ true
        → refutes study.size study.axioms everywhere (map (lemma_named study instances) earlier) known (named_back study instances r) ≡ true
    refuted_back earlier known (ByAxiom i values) h =
        axiom_back known i values (map (lemma_named study instances) earlier) (slice_get instances i) refl (and_parts (list_any (λ c. c == i) dcore) (is_instance_false study.size known (slice_get daxioms i) values) h).1
    refuted_back earlier known (ByOutcome p) h = h
    refuted_back earlier known (ByLemma j) h = claim_same known earlier j h

    -- ---- lemmas

    forced_back : (earlier : List Lemma) (last : Reason) (known : List Literal) (steps : List StoryStep) → are_forced study.size daxioms dcore earlier last known steps ≡ true
        → are_forced study.size study.axioms everywhere (map (lemma_named study instances) earlier) (named_back study instances last) known (map (step_named study instances) steps) ≡ true
    forced_back earlier last known [] h = refuted_back earlier known last h
    forced_back earlier last known (step ∷ steps) h =
        let a = and_parts (not (is_decided known step.literal) && refutes study.size daxioms dcore earlier (known ++ opposite_of step.literal ∷ []) step.reason) (are_forced study.size daxioms dcore earlier last (known ++ step.literal ∷ []) steps) h in
        let b = and_parts (not (is_decided known step.literal)) (refutes study.size daxioms dcore earlier (known ++ opposite_of step.literal ∷ []) step.reason) a.0 in
        and_from _ _ (and_from _ _ b.0 (refuted_back earlier (known ++ opposite_of step.literal ∷ []) step.reason b.1)) (forced_back earlier last (known ++ step.literal ∷ []) steps a.1)

    literals_back : (steps : List StoryStep) → list_all (λ (s : StoryStep). is_literal study.size s.literal) (map (step_named study instances) steps) ≡ list_all (λ (s : StoryStep). is_literal study.size s.literal) steps
    literals_back [] = refl
    literals_back (s ∷ steps) = ap (λ b. is_literal study.size s.literal && b) (literals_back steps)

    lemma_back : (earlier : List Lemma) (lemma : Lemma) → is_lemma study.size daxioms dcore earlier lemma ≡ true
        → is_lemma study.size study.axioms everywhere (map (lemma_named study instances) earlier) (lemma_named study instances lemma) ≡ true
    lemma_back earlier lemma h =
        let a = and_parts (has_literals study.size lemma && are_new [] lemma.suppose) (are_forced study.size daxioms dcore earlier lemma.last lemma.suppose lemma.steps) h in
        let b = and_parts (has_literals study.size lemma) (are_new [] lemma.suppose) a.0 in
        let c = and_parts (list_all (is_literal study.size) lemma.suppose) (list_all (λ (s : StoryStep). is_literal study.size s.literal) lemma.steps) b.0 in
        and_from _ _ (and_from _ _ (and_from _ _ c.0 (literals_back lemma.steps ∙ c.1)) b.1) (forced_back earlier lemma.last lemma.suppose lemma.steps a.1)

    story_back : (earlier story : List Lemma) → is_story_from study.size daxioms dcore earlier story ≡ true
        → is_story_from study.size study.axioms everywhere (map (lemma_named study instances) earlier) (map (lemma_named study instances) story) ≡ true
    story_back earlier [] h = absurd cc
    story_back earlier (lemma ∷ []) h =
        let a = and_parts (is_lemma study.size daxioms dcore earlier lemma) (length lemma.suppose == 0) h in and_from _ _ (lemma_back earlier lemma a.0) a.1
    story_back earlier (lemma ∷ next ∷ rest) h =
        let a = and_parts (is_lemma study.size daxioms dcore earlier lemma) (is_story_from study.size daxioms dcore (earlier ++ lemma ∷ []) (next ∷ rest)) h in
        and_from _ _ (lemma_back earlier lemma a.0)
        (subst (λ ls. is_story_from study.size study.axioms everywhere ls (map (lemma_named study instances) (next ∷ rest)) ≡ true) (map-append (lemma_named study instances) earlier (lemma ∷ [])) (story_back (earlier ++ lemma ∷ []) (next ∷ rest) a.1))

-- ---- the core that a story needs

module _ (size : Extent) (axioms : List Titled) (core needed : List ℕ) where
  -- the axiom of a reason that refutes is one of the study
  there_is : (known : List Literal) (k : ℕ) (values : List ℕ) (o : Option Titled) → slice_get axioms k ≡ o → is_instance_false size known o values ≡ true → k < length axioms
  there_is known k values None e h = absurd cc
  there_is known k values (Some a) e h = slice_get_within axioms k a e

  -- the axiom that a reason cites is needed
  abbrev IsNeeded : Reason → Type 0
  IsNeeded r = (k : ℕ) → cites_axiom k r ≡ true → k < length axioms → list_any (λ c. c == k) needed ≡ true

  abbrev AreNeeded : List Reason → Type 0
  AreNeeded rs = (k : ℕ) → list_any (cites_axiom k) rs ≡ true → k < length axioms → list_any (λ c. c == k) needed ≡ true

  refuted_needed : (earlier : List Lemma) (known : List Literal) (r : Reason) → IsNeeded r → refutes size axioms core earlier known r ≡ true → refutes size axioms needed earlier known r ≡ true
  refuted_needed earlier known (ByAxiom k values) n h =
      let e = and_parts (list_any (λ c. c == k) core) (is_instance_false size known (slice_get axioms k) values) h in
      and_from _ _ (n k (eq-eqb k k refl) (there_is known k values (slice_get axioms k) refl e.1)) e.1
  refuted_needed earlier known (ByOutcome p) n h = h
  refuted_needed earlier known (ByLemma j) n h = h

  forced_needed : (earlier : List Lemma) (last : Reason) (known : List Literal) (steps : List StoryStep) → AreNeeded (map (λ (s : StoryStep). s.reason) steps ++ last ∷ [])
      → are_forced size axioms core earlier last known steps ≡ true → are_forced size axioms needed earlier last known steps ≡ true
  forced_needed earlier last known [] n h = refuted_needed earlier known last (λ k e lt. n k (or_left _ _ e) lt) h
  forced_needed earlier last known (step ∷ steps) n h =
      let a = and_parts (not (is_decided known step.literal) && refutes size axioms core earlier (known ++ opposite_of step.literal ∷ []) step.reason) (are_forced size axioms core earlier last (known ++ step.literal ∷ []) steps) h in
      let b = and_parts (not (is_decided known step.literal)) (refutes size axioms core earlier (known ++ opposite_of step.literal ∷ []) step.reason) a.0 in
      and_from _ _ (and_from _ _ b.0 (refuted_needed earlier (known ++ opposite_of step.literal ∷ []) step.reason (λ k e lt. n k (or_left _ _ e) lt) b.1))
      (forced_needed earlier last (known ++ step.literal ∷ []) steps (λ k e lt. n k (or_right (cites_axiom k step.reason) _ e) lt) a.1)

  lemma_needed : (earlier : List Lemma) (lemma : Lemma) → AreNeeded (reasons_of lemma) → is_lemma size axioms core earlier lemma ≡ true → is_lemma size axioms needed earlier lemma ≡ true
  lemma_needed earlier lemma n h =
      let a = and_parts (has_literals size lemma && are_new [] lemma.suppose) (are_forced size axioms core earlier lemma.last lemma.suppose lemma.steps) h in
      and_from _ _ a.0 (forced_needed earlier lemma.last lemma.suppose lemma.steps n a.1)

  story_needed : (earlier story : List Lemma) → ((k : ℕ) → is_axiom_told story k ≡ true → k < length axioms → list_any (λ c. c == k) needed ≡ true)
      → is_story_from size axioms core earlier story ≡ true → is_story_from size axioms needed earlier story ≡ true
  story_needed earlier [] n h = absurd cc
  story_needed earlier (lemma ∷ []) n h =
      let a = and_parts (is_lemma size axioms core earlier lemma) (length lemma.suppose == 0) h in
      and_from _ _ (lemma_needed earlier lemma (λ k e lt. n k (or_left _ _ e) lt) a.0) a.1
  story_needed earlier (lemma ∷ next ∷ rest) n h =
      let a = and_parts (is_lemma size axioms core earlier lemma) (is_story_from size axioms core (earlier ++ lemma ∷ []) (next ∷ rest)) h in
      and_from _ _ (lemma_needed earlier lemma (λ k e lt. n k (or_left _ _ e) lt) a.0)
      (story_needed (earlier ++ lemma ∷ []) (next ∷ rest) (λ k e lt. n k (or_right (list_any (cites_axiom k) (reasons_of lemma)) _ e) lt) a.1)

pub core_is_needed : (study : Question) (core : List ℕ) (story : List Lemma) → is_story study.size study.axioms core story ≡ true → is_story study.size study.axioms (core_of study story) story ≡ true
core_is_needed study core story h =
    story_needed study.size study.axioms core (core_of study story) [] story (λ k told lt. kept_there (is_axiom_told story) (below (length study.axioms)) k (there (length study.axioms) k lt) told) h

pub named_accepted : (study : Question) (instances : List Cited) (core : List ℕ) (story : List Lemma) → list_all (is_present study) instances ≡ true → is_story study.size (axioms_from study 0 instances) core story ≡ true
    → is_story study.size study.axioms (core_of study (story_named study instances story)) (story_named study instances story) ≡ true
named_accepted study instances core story present h =
    core_is_needed study (below (length study.axioms)) (story_named study instances story) (story_back study instances present core [] story h)
