-- The instances whose clauses a proof names.
use mathlib.Core.Bool.{or-false}
use Rattle.std.proofs.Common.{◌≡◌, refl, sym, ◌∙◌, ap, ap₂, subst, ℕ, zero, suc, ◌+◌, ◌*◌, ◌<◌, ◌≤◌, Bool, true, false, ◌||◌, nat_eq, inl, inr, ◌⊎◌, List, [], ◌∷◌, ◌++◌, map, length, length-append, arith, Option, Some, None, true≢false, eq-eqb, eqb-true, lt-ltb, ltb-true}
use Rattle.std.specs.Prelude.{nat_lt, slice_get, slice_index_or}
use Rattle.std.specs.List.{list_all}
use Rattle.std.specs.Option.{option_map_or}
use Rattle.std.proofs.lemmas.Bool.{and_from, and_parts, cases_lt, or_cases, or_left, or_right}
use Rattle.std.proofs.lemmas.List.Elements.{All-push}
use Rattle.std.proofs.lemmas.Option.{slice_get_within}
use Rattle.vocab.specs.Limits.{instance_count}
use Rattle.vocab.specs.Study.{Question, IsStudy}
use Rattle.vocab.specs.Titled.{Titled}
use Rattle.cnf.specs.declared.derivations.Line.{Line}
use Rattle.cnf.specs.Trimmed.{is_cited_in}
use Rattle.meaning.specs.declared.clauses.Origin.{Origin}
use Rattle.meaning.specs.declared.clauses.Origin.TheVariants.{Frame, Instance}
use Rattle.meaning.specs.Laws.{IfAxiom}
use Rattle.meaning.specs.StudyClauses.{Sourced}
use Rattle.clause_form.specs.Sources.{origins_in}
use Rattle.grounding.specs.Rising.{includes}
use Rattle.retell.specs.Cited.{HaveInstances}
use Rattle.retell.proofs.CitedLaws.{instance_at}
use Rattle.renumbering.specs.Renumbered.{AreFlags}
use Rattle.sharp_verdicts.specs.declared.instances.Cited.{Cited}
use Rattle.sharp_verdicts.specs.Instances.{is_present, count_at}
use Rattle.instance_stories.specs.Codes.{code_of, AreRisingInstances, HaveAxiomRoom}
use Rattle.instance_stories.proofs.AllInstances.{cited_of, decoded, has-append, counts_within}
use Rattle.instance_grounds.specs.Laws.{IsFrameOrCited}
use Rattle.instance_cores.specs.Cores.{HasPresent, AreCodes, AreInstancesCited}

-- ---- the instance of an origin

pub origin_get : (ss : List Sourced) (j : ℕ) (s : Sourced) → slice_get ss j ≡ Some s → slice_get (origins_in ss) j ≡ Some s.origin
origin_get [] j s e = absurd cc
origin_get (x ∷ ss) zero s e = let same : x ≡ s = cc in ap (λ (y : Sourced). Some y.origin) same
origin_get (x ∷ ss) (suc j) s e = origin_get ss j s e

present_in : (study : Question) (a k : ℕ) (o : Option Titled) → slice_get study.axioms a ≡ o → IfAxiom o (λ (ax : Titled). k < instance_count study.size ax.sentence) → is_present study (record { «axiom» = a; number = k }) ≡ true
present_in study a k None e h = absurd h
present_in study a k (Some ax) e h =
    let lt = slice_get_within study.axioms a ax e in
    and_from _ _ (lt-ltb a (length study.axioms) lt)
    (subst (λ o. nat_lt k (option_map_or (λ (b : Titled). instance_count study.size b.sentence) o 0) ≡ true) (sym e) (lt-ltb k (instance_count study.size ax.sentence) h))

pub origin_present : (study : Question) (ss : List Sourced) (j a k : ℕ) → HaveInstances study.size study.axioms ss → slice_get (origins_in ss) j ≡ Some (Instance a k) → is_present study (record { «axiom» = a; number = k }) ≡ true
origin_present study ss j a k have e = present_in study a k (slice_get study.axioms a) refl (instance_at study.size study.axioms ss j (Instance a k) have e)

pub present_few : (study : Question) → IsStudy study → (c : Cited) → is_present study c ≡ true → (c.«axiom» < 4000000) × (c.number < 40000000)
present_few study taken c h =
    let e = and_parts (nat_lt c.«axiom» (length study.axioms)) (nat_lt c.number (count_at study c.«axiom»)) h in
    let a = ltb-true c.«axiom» (length study.axioms) e.0 in
    let n = ltb-true c.number (count_at study c.«axiom») e.1 in
    let few = counts_within study taken c.«axiom» in
    (omega (arith, a, taken.few_axioms), omega (arith, n, few))

-- ---- the numbers of the clauses up to a place

split_has : (xs : List ℕ) (x k : ℕ) → includes (xs ++ x ∷ []) k ≡ true → (includes xs k ≡ true) ⊎ (k ≡ x)
split_has xs x k h = elim (or_cases (includes xs k) (nat_eq k x || false) (sym (has-append xs (x ∷ []) k) ∙ h)) [
  | inl e ↦ inl e
  | inr e ↦ inr (eqb-true k x (sym (or-false (nat_eq k x)) ∙ e))
]

has_old : (xs : List ℕ) (x k : ℕ) → includes xs k ≡ true → includes (xs ++ x ∷ []) k ≡ true
has_old xs x k h = has-append xs (x ∷ []) k ∙ or_left (includes xs k) (nat_eq k x || false) h

has_new : (xs : List ℕ) (x : ℕ) → includes (xs ++ x ∷ []) x ≡ true
has_new xs x = has-append xs (x ∷ []) x ∙ or_right (includes xs x) (nat_eq x x || false) (or_left (nat_eq x x) false (eq-eqb x x refl))

module _ (study : Question) (sources : List Sourced) (flags : List Bool) where
  pub kept_same : (k : ℕ) (codes new : List ℕ) → AreCodes study sources flags k codes → new ≡ codes
      → ((s : Sourced) (a n : ℕ) → slice_get sources k ≡ Some s → s.origin ≡ Instance a n → slice_index_or flags k false ≡ true → ⊥) → AreCodes study sources flags (k + 1) new
  kept_same k codes new kept same never = subst (AreCodes study sources flags (k + 1)) (sym same) (record { few = (let f = kept.few in omega (arith, f)); high = kept.high; present = kept.present; named = named })
    where
      named : (j : ℕ) (s : Sourced) (a n : ℕ) → j < k + 1 → slice_get sources j ≡ Some s → s.origin ≡ Instance a n → slice_index_or flags j false ≡ true → includes codes (code_of (record { «axiom» = a; number = n })) ≡ true
      named j s a n lt e o f = elim (cases_lt j k) [
        | inl l ↦ kept.named j s a n l e o f
        | inr m ↦
            let here : j ≡ k = omega (arith, lt, m) in
            absurd (never s a n (subst (λ (i : ℕ). slice_get sources i ≡ Some s) here e) o (subst (λ (i : ℕ). slice_index_or flags i false ≡ true) here f))
      ]

  pub kept_pushed : (k : ℕ) (codes new : List ℕ) (c : Cited) → AreCodes study sources flags k codes → new ≡ codes ++ code_of c ∷ []
      → is_present study c ≡ true → slice_get (origins_in sources) k ≡ Some (Instance c.«axiom» c.number) → AreCodes study sources flags (k + 1) new
  kept_pushed k codes new c kept same there at = subst (AreCodes study sources flags (k + 1)) (sym same) (record {
    few = (let more = length-append codes (code_of c ∷ []) in let f = kept.few in omega (arith, more, f));
    high = All-push (λ n. 4294967296 ≤ n) codes (code_of c) kept.high (omega arith);
    present = λ n h. elim (split_has codes (code_of c) n h) [
      | inl e ↦ kept.present n e
      | inr e ↦ (c, there, sym e)
    ];
    named = named;
  })
    where
      origin_here : (s : Sourced) (a n : ℕ) → slice_get sources k ≡ Some s → s.origin ≡ Instance a n → Instance a n ≡ Instance c.«axiom» c.number
      origin_here s a n e o = let both : Some s.origin ≡ Some (Instance c.«axiom» c.number) = sym (origin_get sources k s e) ∙ at in let same : s.origin ≡ Instance c.«axiom» c.number = cc in sym o ∙ same

      named : (j : ℕ) (s : Sourced) (a n : ℕ) → j < k + 1 → slice_get sources j ≡ Some s → s.origin ≡ Instance a n → slice_index_or flags j false ≡ true
          → includes (codes ++ code_of c ∷ []) (code_of (record { «axiom» = a; number = n })) ≡ true
      named j s a n lt e o f = elim (cases_lt j k) [
        | inl l ↦ has_old codes (code_of c) (code_of (record { «axiom» = a; number = n })) (kept.named j s a n l e o f)
        | inr m ↦
            let here : j ≡ k = omega (arith, lt, m) in
            let is = origin_here s a n (subst (λ (i : ℕ). slice_get sources i ≡ Some s) here e) o in
            let first : a ≡ c.«axiom» = cc in
            let second : n ≡ c.number = cc in
            let code : code_of (record { «axiom» = a; number = n }) ≡ code_of c = ap₂ (λ (x y : ℕ). (x + 1) * 4294967296 + y) first second in
            subst (λ (m : ℕ). includes (codes ++ code_of c ∷ []) m ≡ true) (sym code) (has_new codes (code_of c))
      ]

-- a clause whose origin is no instance
pub not_here : (sources : List Sourced) (k : ℕ) (o : Origin) (s : Sourced) (a n : ℕ) → slice_get (origins_in sources) k ≡ Some o → slice_get sources k ≡ Some s → s.origin ≡ Instance a n → (o ≡ Instance a n → ⊥) → ⊥
not_here sources k o s a n at e is never = let both : Some s.origin ≡ Some o = sym (origin_get sources k s e) ∙ at in let same : s.origin ≡ o = cc in never (sym same ∙ is)

-- ---- the instances of the numbers

same_instance : (c d : Cited) → c.number < 4294967296 → d.number < 4294967296 → code_of c ≡ code_of d → c ≡ d
same_instance c d lc ld e = sym (decoded c lc) ∙ ap cited_of e ∙ decoded d ld

has_place : (cs : List Cited) (c : Cited) → HaveAxiomRoom cs → c.number < 4294967296 → includes (map code_of cs) (code_of c) ≡ true → (i : ℕ) × (slice_get cs i ≡ Some c)
has_place [] c small lt h = absurd (true≢false (sym h))
has_place (d ∷ cs) c small lt h = elim (or_cases (nat_eq (code_of c) (code_of d)) (includes (map code_of cs) (code_of c)) h) [
  | inl e ↦ (zero, ap (λ (x : Cited). Some x) (same_instance d c small.0 lt (sym (eqb-true (code_of c) (code_of d) e))))
  | inr e ↦ let r = has_place cs c small.1 lt e in (suc r.0, r.1)
]

module _ (study : Question) (taken : IsStudy study) where
  small_of : (c : Cited) → is_present study c ≡ true → c.number < 4294967296
  small_of c h = let few = present_few study taken c h in omega (arith, few.1)

  all_present : (cs : List Cited) → HaveAxiomRoom cs → ((k : ℕ) → includes (map code_of cs) k ≡ true → HasPresent study k) → list_all (is_present study) cs ≡ true
  all_present [] small h = refl
  all_present (c ∷ cs) small h =
      let p = h (code_of c) (or_left (nat_eq (code_of c) (code_of c)) (includes (map code_of cs) (code_of c)) (eq-eqb (code_of c) (code_of c) refl)) in
      let same = same_instance p.0 c (small_of p.0 p.1) small.0 p.2 in
      and_from _ _ (subst (λ (x : Cited). is_present study x ≡ true) same p.1)
      (all_present cs small.1 (λ k e. h k (or_right (nat_eq k (code_of c)) (includes (map code_of cs) k) e)))

  pub cited_made : (sources : List Sourced) (lines : List Line) (flags : List Bool) (codes : List ℕ) (instances : List Cited) → length sources ≤ 4000000 → length instances ≤ length codes → HaveInstances study.size study.axioms sources
      → AreFlags (length sources) lines flags → AreCodes study sources flags (length sources) codes → AreRisingInstances instances → HaveAxiomRoom instances
      → ((k : ℕ) → includes (map code_of instances) k ≡ includes codes k) → AreInstancesCited study sources lines instances
  cited_made sources lines flags codes instances few fewer have flagged named rising small same = record {
    own = record {
      few = (let f = named.few in omega (arith, few, fewer, f));
      present = all_present instances small (λ k h. named.present k (sym (same k) ∙ h));
    };
    rising = rising;
    small = small;
    cover = λ j s e h. covered j s e h s.origin refl;
  }
    where
      covered : (j : ℕ) (s : Sourced) → slice_get sources j ≡ Some s → is_cited_in lines (suc j) ≡ true → (o : Origin) → s.origin ≡ o → IsFrameOrCited instances o
      covered j s e h (Frame p) o = tt
      covered j s e h (Instance a k) o =
          let lt = slice_get_within sources j s e in
          let up = flagged.cited j lt ∙ h in
          let there = origin_present study sources j a k have (origin_get sources j s e ∙ ap (λ (x : Origin). Some x) o) in
          let code = code_of (record { «axiom» = a; number = k }) in
          has_place instances (record { «axiom» = a; number = k }) small (small_of (record { «axiom» = a; number = k }) there) (same code ∙ named.named j s a k lt e o up)
