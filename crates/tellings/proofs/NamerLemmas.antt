-- The lemmas that name one.
use Rattle.std.proofs.Common.{◌≡◌, refl, sym, ap, ◌∙◌, subst, ℕ, zero, suc, ◌<◌, ◌==◌, Bool, true, false, ◌&&◌, ◌||◌, ◌⊎◌, List, [], ◌∷◌, ◌++◌, length, take, inl, inr, arith, Option, Some, None, slice_get, eqb-true, eq-eqb, lt-ltb, true≢false}
use Rattle.std.specs.List.{flat_map, list_any}
use Rattle.std.proofs.lemmas.Bool.{and_parts, or_cases}
use Rattle.std.proofs.lemmas.Option.{slice_get_within}
use Rattle.lists.proofs.TestLaws.{all_get, any_left, any_right}
use Rattle.vocab.specs.declared.literals.Literal.{Literal}
use Rattle.vocab.specs.Literal.{opposite_of}
use Rattle.vocab.specs.Range.{below}
use Rattle.vocab.specs.Size.{Extent}
use Rattle.vocab.specs.Titled.{Titled}
use Rattle.vocab.proofs.Ranges.{at_below}
use Rattle.meaning.specs.declared.stories.Reason.{Reason}
use Rattle.meaning.specs.declared.stories.Reason.TheVariants.{Axiom as ByAxiom, Outcome as ByOutcome, Lemma as ByLemma}
use Rattle.meaning.specs.declared.stories.Lemma.{Lemma}
use Rattle.meaning.specs.Stories.{is_claim_false, refutes}
use Rattle.tellings.specs.declared.tellings.Placed.{Placed}
use Rattle.tellings.specs.declared.tellings.Sentence.{Sentence}
use Rattle.tellings.specs.declared.tellings.Telling.{Telling}
use Rattle.tellings.specs.Laws.{UsedOnceStandWhereUsed}
use Rattle.tellings.specs.Tellings.{by_of, is_by, stand_there, says_step, names_lemma, naming, namings, namers, is_only, home_of, stands_in, takes_in, IsTellingRight}

pub only_is : (m : ℕ) (names : List ℕ) → is_only m names ≡ true → names ≡ m ∷ []
only_is m [] h = absurd (true≢false (sym h))
only_is m (k ∷ []) h = ap (λ (x : ℕ). x ∷ []) (eqb-true k m h)
only_is m (k ∷ l ∷ ls) h = absurd (true≢false (sym h))

pub is_lemma : (j : ℕ) (reason : Reason) → names_lemma j reason ≡ true → reason ≡ ByLemma j
is_lemma j (ByAxiom k values) h = absurd (true≢false (sym h))
is_lemma j (ByOutcome p) h = absurd (true≢false (sym h))
is_lemma j (ByLemma k) h = ap (λ (i : ℕ). ByLemma i) (eqb-true k j h)

-- ---- a lemma that names one is among those that do

any_flat : {X A : Type 0} (t : A → Bool) (f : X → List A) (xs : List X) (i : ℕ) (x : X) → slice_get xs i ≡ Some x → list_any t (f x) ≡ true → list_any t (flat_map f xs) ≡ true
any_flat t f [] i x at h = cc
any_flat t f (y ∷ xs) zero x at h =
    let same : y ≡ x = cc in
    any_left t (f y) (flat_map f xs) (subst (λ z. list_any t (f z) ≡ true) (sym same) h)
any_flat t f (y ∷ xs) (suc i) x at h = any_right t (f y) (flat_map f xs) (any_flat t f xs i x at h)

own_name : (j m : ℕ) (reason : Reason) → names_lemma j reason ≡ true → list_any (λ k. k == m) (naming j m reason) ≡ true
own_name j m reason h = rw (h, eq-eqb m m refl) refl

is_last_of : (h : ℕ) (names : List ℕ) (m : ℕ) → is_only h names ≡ true → list_any (λ k. k == m) names ≡ true → m ≡ h
is_last_of h names m only any = cases (subst (λ (ks : List ℕ). list_any (λ k. k == m) ks ≡ true) (only_is h names only) any)
  where
    cases : ((h == m) || false) ≡ true → m ≡ h
    cases e = elim (or_cases (h == m) false e) [
      | inl same ↦ sym (eqb-true h m same)
      | inr other ↦ absurd (true≢false (sym other))
    ]

module _ (story : List Lemma) (tellings : List Telling) where
  abbrev of_place : ℕ → ℕ → List ℕ
  of_place j m = namings j m (slice_get story m) (slice_get tellings m)

  -- by a step, or by its last reason
  among : (j m : ℕ) (lemma : Lemma) (telling : Telling) → slice_get story m ≡ Some lemma → slice_get tellings m ≡ Some telling →
      list_any (λ k. k == m) (namings j m (Some lemma) (Some telling)) ≡ true → list_any (λ k. k == m) (namers story tellings j) ≡ true
  among j m lemma telling at there h =
      any_flat (λ k. k == m) (of_place j) (below (length story)) m m (at_below (length story) m (slice_get_within story m lemma at)) (rw (at, there) h)

  pub step_names_only : (j m h i : ℕ) (lemma : Lemma) (telling : Telling) (placed : Placed) → slice_get story m ≡ Some lemma → slice_get tellings m ≡ Some telling →
      slice_get telling.passage.steps i ≡ Some placed → names_lemma j placed.step.reason ≡ true → is_only h (namers story tellings j) ≡ true → m ≡ h
  step_names_only j m h i lemma telling placed at there here named only =
      is_last_of h (namers story tellings j) m only
      (among j m lemma telling at there
      (any_left (λ k. k == m) (flat_map (λ placed. naming j m placed.step.reason) telling.passage.steps) (naming j m lemma.last)
      (any_flat (λ k. k == m) (λ placed. naming j m placed.step.reason) telling.passage.steps i placed here (own_name j m placed.step.reason named))))

  pub last_names_only : (j m h : ℕ) (lemma : Lemma) (telling : Telling) → slice_get story m ≡ Some lemma → slice_get tellings m ≡ Some telling →
      names_lemma j lemma.last ≡ true → is_only h (namers story tellings j) ≡ true → m ≡ h
  last_names_only j m h lemma telling at there named only =
      is_last_of h (namers story tellings j) m only
      (among j m lemma telling at there
      (any_right (λ k. k == m) (flat_map (λ placed. naming j m placed.step.reason) telling.passage.steps) (naming j m lemma.last) (own_name j m lemma.last named)))

-- ---- what names one

first_of : {X : Type 0} (f : X → List ℕ) (xs : List X) (m : ℕ) (rest : List ℕ) → flat_map f xs ≡ m ∷ rest →
    (i : ℕ) × (x : X) × (more : List ℕ) × (slice_get xs i ≡ Some x) × (f x ≡ m ∷ more)
first_of f [] m rest h = cc
first_of f (x ∷ xs) m rest h = cases (first_of f xs m rest) (f x) refl
  where
    cases : (flat_map f xs ≡ m ∷ rest → (i : ℕ) × (y : _) × (more : List ℕ) × (slice_get xs i ≡ Some y) × (f y ≡ m ∷ more)) → (part : List ℕ) → f x ≡ part →
        (i : ℕ) × (y : _) × (more : List ℕ) × (slice_get (x ∷ xs) i ≡ Some y) × (f y ≡ m ∷ more)
    cases ih [] e =
        let later : flat_map f xs ≡ m ∷ rest = sym (ap (λ (l : List ℕ). l ++ flat_map f xs) e) ∙ h in
        let found = ih later in
        (suc found.0, found.1, found.2, found.3, found.4)
    cases ih (k ∷ more) e =
        let first : k ∷ (more ++ flat_map f xs) ≡ m ∷ rest = sym (ap (λ (l : List ℕ). l ++ flat_map f xs) e) ∙ h in
        let same : k ≡ m = cc in
        (0, x, more, refl, e ∙ ap (λ (i : ℕ). i ∷ more) same)

named_is : (j k : ℕ) (reason : Reason) (m : ℕ) (rest : List ℕ) → naming j k reason ≡ m ∷ rest → (m ≡ k) × (names_lemma j reason ≡ true)
named_is j k reason m rest h = cases (names_lemma j reason) refl
  where
    cases : (b : Bool) → names_lemma j reason ≡ b → (m ≡ k) × (names_lemma j reason ≡ true)
    cases true e = let this : k ∷ [] ≡ m ∷ rest = rw e at h in (cc, e)
    cases false e = let none : [] ≡ m ∷ rest = rw e at h in cc

-- a lemma names one by a step or by its last reason
pub record IsNaming (j : ℕ) (lemma : Lemma) (telling : Telling) : Type 0 where
  pub by : ((i : ℕ) × (placed : Placed) × (slice_get telling.passage.steps i ≡ Some placed) × (names_lemma j placed.step.reason ≡ true)) ⊎ (names_lemma j lemma.last ≡ true)

named_where : (j k : ℕ) (lemma : Lemma) (telling : Telling) (m : ℕ) (rest : List ℕ) → namings j k (Some lemma) (Some telling) ≡ m ∷ rest → (m ≡ k) × IsNaming j lemma telling
named_where j k lemma telling m rest h = cases by_steps refl
  where
    by_steps : List ℕ
    by_steps = flat_map (λ placed. naming j k placed.step.reason) telling.passage.steps

    cases : (part : List ℕ) → by_steps ≡ part → (m ≡ k) × IsNaming j lemma telling
    cases [] e =
        let last : naming j k lemma.last ≡ m ∷ rest = sym (ap (λ (l : List ℕ). l ++ naming j k lemma.last) e) ∙ h in
        let r = named_is j k lemma.last m rest last in
        (r.0, record { by = inr r.1 })
    cases (l ∷ more) e =
        let first : l ∷ (more ++ naming j k lemma.last) ≡ m ∷ rest = sym (ap (λ (ls : List ℕ). ls ++ naming j k lemma.last) e) ∙ h in
        let same : l ≡ m = cc in
        let f = first_of (λ placed. naming j k placed.step.reason) telling.passage.steps l more e in
        let r = named_is j k f.1.step.reason l f.2 f.4 in
        (sym same ∙ r.0, record { by = inl (f.0, f.1, f.3, r.1) })

-- the lemma that alone names one does so
pub only_names : (story : List Lemma) (tellings : List Telling) (j m : ℕ) (lemma : Lemma) (telling : Telling) → slice_get story m ≡ Some lemma → slice_get tellings m ≡ Some telling →
    is_only m (namers story tellings j) ≡ true → IsNaming j lemma telling
only_names story tellings j m lemma telling at there only =
    let f = first_of (λ k. namings j k (slice_get story k) (slice_get tellings k)) (below (length story)) m [] (only_is m (namers story tellings j) only) in
    cases f.1 (slice_get story f.1) (slice_get tellings f.1) refl refl f.2 f.4
  where
    cases : (k : ℕ) (o : Option Lemma) (t : Option Telling) → slice_get story k ≡ o → slice_get tellings k ≡ t → (more : List ℕ) → namings j k o t ≡ m ∷ more → IsNaming j lemma telling
    cases k None t a b more h = cc
    cases k (Some l) None a b more h = cc
    cases k (Some l) (Some t) a b more h =
        let r = named_where j k l t m more h in
        let one : Some l ≡ Some lemma = sym a ∙ ap (slice_get story) (sym r.0) ∙ at in
        let two : Some t ≡ Some telling = sym b ∙ ap (slice_get tellings) (sym r.0) ∙ there in
        let lemmas : l ≡ lemma = cc in
        let tells : t ≡ telling = cc in
        subst (λ (x : Lemma). IsNaming j x telling) lemmas (subst (λ (x : Telling). IsNaming j l x) tells r.1)

-- and stands in the story
pub only_stands : (story : List Lemma) (tellings : List Telling) (j m : ℕ) → is_only m (namers story tellings j) ≡ true →
    (lemma : Lemma) × (telling : Telling) × (slice_get story m ≡ Some lemma) × (slice_get tellings m ≡ Some telling)
only_stands story tellings j m only =
    let f = first_of (λ k. namings j k (slice_get story k) (slice_get tellings k)) (below (length story)) m [] (only_is m (namers story tellings j) only) in
    cases f.1 (slice_get story f.1) (slice_get tellings f.1) refl refl f.2 f.4
  where
    cases : (k : ℕ) (o : Option Lemma) (t : Option Telling) → slice_get story k ≡ o → slice_get tellings k ≡ t → (more : List ℕ) → namings j k o t ≡ m ∷ more →
        (lemma : Lemma) × (telling : Telling) × (slice_get story m ≡ Some lemma) × (slice_get tellings m ≡ Some telling)
    cases k None t a b more h = cc
    cases k (Some l) None a b more h = cc
    cases k (Some l) (Some t) a b more h =
        let r = named_where j k l t m more h in
        (l, t, ap (slice_get story) r.0 ∙ a, ap (slice_get tellings) r.0 ∙ b)

-- ---- of a story that is told right

below_of_take : {A : Type 0} (m j : ℕ) (xs : List A) (x : A) → slice_get (take m xs) j ≡ Some x → j < m
below_of_take zero j xs x h = cc
below_of_take (suc m) j [] x h = cc
below_of_take (suc m) zero (y ∷ xs) x h = omega arith
below_of_take (suc m) (suc j) (y ∷ xs) x h = let ih = below_of_take m j xs x h in omega (arith, ih)

module _ (size : Extent) (axioms : List Titled) (core : List ℕ) (story : List Lemma) where
  earlier_by : (m j : ℕ) (known : List Literal) (reason : Reason) → names_lemma j reason ≡ true → refutes size axioms core (take m story) known reason ≡ true → j < m
  earlier_by m j known reason named h =
      cases (slice_get (take m story) j) refl (subst (λ (r : Reason). refutes size axioms core (take m story) known r ≡ true) (is_lemma j reason named) h)
    where
      cases : (o : Option Lemma) → slice_get (take m story) j ≡ o → is_claim_false known o ≡ true → j < m
      cases None e c = absurd (true≢false (sym c))
      cases (Some lemma) e c = below_of_take m j story lemma e

  said_refutes : (earlier : List Lemma) (o : Option Sentence) (placed : Placed) → says_step size axioms core earlier o placed.step ≡ true →
      (known : List Literal) × (refutes size axioms core earlier known placed.step.reason ≡ true)
  said_refutes earlier None placed h = absurd (true≢false (sym h))
  said_refutes earlier (Some sentence) placed h = (
    sentence.rests ++ opposite_of placed.step.literal ∷ [],
    (and_parts (is_by sentence.by (by_of placed.step.reason) && stand_there sentence.rests placed.step.reason)
        (refutes size axioms core earlier (sentence.rests ++ opposite_of placed.step.literal ∷ []) placed.step.reason) h).1,
  )

  -- a lemma names earlier ones alone
  pub names_earlier : (forced : List Literal) (j m : ℕ) (lemma : Lemma) (telling : Telling) → IsTellingRight size axioms core (take m story) forced lemma telling → IsNaming j lemma telling → j < m
  names_earlier forced j m lemma telling right naming = elim naming.by [
    | inl step ↦
        let said = all_get (λ placed. says_step size axioms core (take m story) (slice_get telling.passage.sentences placed.sentence) placed.step) telling.passage.steps step.0 step.1 right.said step.2 in
        let known = said_refutes (take m story) (slice_get telling.passage.sentences step.1.sentence) step.1 said in
        earlier_by m j known.0 step.1.step.reason step.3 known.1
    | inr last ↦ earlier_by m j telling.end lemma.last last right.ended
  ]

stands_is : (m : ℕ) (o : Option ℕ) → stands_in m o ≡ true → o ≡ Some m
stands_is m None h = absurd (true≢false (sym h))
stands_is m (Some k) h = ap (λ (i : ℕ). Some i) (eqb-true k m h)

-- a lemma that is used once stands within the one that uses it, unless that one stands as deep as lemmas may
pub used_once : UsedOnceStandWhereUsed
used_once size axioms core story told right j m names shallow =
    let only : is_only m (namers story told.lemmas j) ≡ true = rw (names, eq-eqb m m refl) refl in
    let user = only_stands story told.lemmas j m only in
    let naming = only_names story told.lemmas j m user.0 user.1 user.2 user.3 only in
    let later = names_earlier size axioms core story _ j m user.0 user.1 (right.each m user.0 user.1 user.2 user.3) naming in
    let there = slice_get_within story m user.0 user.2 in
    stands_is m (home_of told.homes j) (right.placed.within j m (omega (arith, later, there)) ∙ taken later only)
  where
    taken : j < m → is_only m (namers story told.lemmas j) ≡ true → takes_in told.homes (namers story told.lemmas j) j m ≡ true
    taken lt only = rw (lt-ltb j m lt, shallow, only) refl
