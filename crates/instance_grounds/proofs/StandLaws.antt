-- The clauses of instances stand among those of the study of these instances.
use Rattle.std.proofs.Common.{◌≡◌, refl, sym, ◌∙◌, ap, ap₂, subst, ℕ, Bool, true, false, ◌⊎◌, inl, inr, List, [], ◌∷◌, length, arith, Option, Some, None}
use Rattle.std.specs.Prelude.{if◌then◌else◌, slice_get}
use Rattle.std.specs.Cmp.Lexicographic.{pointwise}
use Rattle.std.specs.List.{flat_map, list_any}
use Rattle.std.specs.Option.{option_map_or}
use Rattle.std.proofs.lemmas.Bool.{and_parts, or_cases}
use Rattle.std.proofs.lemmas.Option.{slice_get_within}
use Rattle.vocab.specs.declared.kinds.Sort.TheVariants.{Profile}
use Rattle.vocab.specs.Limits.{instance_count}
use Rattle.vocab.specs.Size.{sort_count}
use Rattle.vocab.specs.Study.{Question}
use Rattle.vocab.specs.Titled.{Titled}
use Rattle.vocab.specs.Tree.{Tree}
use Rattle.cnf.specs.Signed.{Signed}
use Rattle.cnf.specs.Sat.{Clause, same_lit}
use Rattle.cnf.proofs.LitLaws.{same_lit-equal}
use Rattle.meaning.specs.declared.clauses.Origin.TheVariants.{Instance}
use Rattle.meaning.specs.Clauses.{plus}
use Rattle.meaning.specs.Instances.{instance_values}
use Rattle.meaning.specs.Space.{below}
use Rattle.meaning.specs.StudyClauses.{Sourced, firsts, clauses_of, instance_of, from_frame, from_instance, from_axiom, study_clauses}
use Rattle.closing.specs.Closed.{closed_body}
use Rattle.closing.proofs.SentenceLaws.{is_instance}
use Rattle.verdicts.proofs.WordLaws.{in_below}
use Rattle.lists.proofs.Members.{in_append, in_left, in_right, in_flat_map, flat_map_in, in_map, map_in, in_at, at_in, IsIn}
use Rattle.sharp_verdicts.specs.declared.instances.Cited.{Cited}
use Rattle.sharp_verdicts.specs.Derived.{closed_at, axiom_of, axioms_from, instance_name}
use Rattle.sharp_verdicts.proofs.DerivedLaws.{derived_get}
use Rattle.sharp_verdicts.specs.Instances.{values_at}
use Rattle.instance_grounds.specs.Laws.{IsFrameOrCited, derived_clauses}

-- ---- of equal clauses the first

same_clauses : (c d : Clause) → pointwise same_lit c d ≡ true → c ≡ d
same_clauses [] [] h = refl
same_clauses [] (y ∷ d) h = absurd cc
same_clauses (x ∷ c) [] h = absurd cc
same_clauses (x ∷ c) (y ∷ d) h =
    let e = and_parts (same_lit x y) (pointwise same_lit c d) h in ap₂ (λ (l : Signed) (ls : Clause). l ∷ ls) (same_lit-equal x y e.0) (same_clauses c d e.1)

-- a kept clause that is equal to this one
abbrev HasClause : List Sourced → Clause → Type 0
HasClause kept c = (t : Sourced) × IsIn kept t × (t.clause ≡ c)

first_kept : (seen : List Clause) (ss : List Sourced) (s : Sourced) → IsIn ss s → HasClause (firsts seen ss) s.clause ⊎ (list_any (pointwise same_lit s.clause) seen ≡ true)
first_kept seen [] s i = absurd i
first_kept seen (x ∷ ss) s i = by (list_any (pointwise same_lit x.clause) seen) refl i (first_kept seen ss s) (first_kept (x.clause ∷ seen) ss s)
  where
    later : HasClause (firsts (x.clause ∷ seen) ss) s.clause ⊎ (list_any (pointwise same_lit s.clause) (x.clause ∷ seen) ≡ true)
        → HasClause (x ∷ firsts (x.clause ∷ seen) ss) s.clause ⊎ (list_any (pointwise same_lit s.clause) seen ≡ true)
    later (inl h) = inl (h.0, inr h.1, h.2)
    later (inr h) = elim (or_cases (pointwise same_lit s.clause x.clause) (list_any (pointwise same_lit s.clause) seen) h) [
      | inl e ↦ inl (x, inl refl, sym (same_clauses s.clause x.clause e))
      | inr e ↦ inr e
    ]

    by : (b : Bool) → list_any (pointwise same_lit x.clause) seen ≡ b → (x ≡ s) ⊎ IsIn ss s
        → (IsIn ss s → HasClause (firsts seen ss) s.clause ⊎ (list_any (pointwise same_lit s.clause) seen ≡ true))
        → (IsIn ss s → HasClause (firsts (x.clause ∷ seen) ss) s.clause ⊎ (list_any (pointwise same_lit s.clause) (x.clause ∷ seen) ≡ true))
        → HasClause (if b then firsts seen ss else x ∷ firsts (x.clause ∷ seen) ss) s.clause ⊎ (list_any (pointwise same_lit s.clause) seen ≡ true)
    by true e (inl same) f g = inr (subst (λ (y : Sourced). list_any (pointwise same_lit y.clause) seen ≡ true) same e)
    by true e (inr i) f g = f i
    by false e (inl same) f g = inl (x, inl refl, ap (λ (y : Sourced). y.clause) same)
    by false e (inr i) f g = later (g i)

kept_first : (ss : List Sourced) (s : Sourced) → IsIn ss s → HasClause (firsts [] ss) s.clause
kept_first ss s i = elim (first_kept [] ss s i) [ inl h ↦ h | inr h ↦ absurd cc ]

in_firsts : (seen : List Clause) (ss : List Sourced) (s : Sourced) → IsIn (firsts seen ss) s → IsIn ss s
in_firsts seen [] s i = absurd i
in_firsts seen (x ∷ ss) s i = by (list_any (pointwise same_lit x.clause) seen) i (in_firsts seen ss s) (in_firsts (x.clause ∷ seen) ss s)
  where
    by : (b : Bool) → IsIn (if b then firsts seen ss else x ∷ firsts (x.clause ∷ seen) ss) s → (IsIn (firsts seen ss) s → IsIn ss s) → (IsIn (firsts (x.clause ∷ seen) ss) s → IsIn ss s) → (x ≡ s) ⊎ IsIn ss s
    by true i f g = inr (f i)
    by false (inl e) f g = inl e
    by false (inr i) f g = inr (g i)

-- ---- the clauses of a study

module _ (study : Question) where
  abbrev frames : List Sourced
  frames = flat_map (from_frame study.size) (below (sort_count study.size Profile))

  -- a clause of an instance of the axiom at a place
  abbrev IsOfInstance : Sourced → ℕ → Titled → ℕ → Type 0
  IsOfInstance s place a k = (s.origin ≡ Instance place k) × IsIn (clauses_of study.size (plus (instance_of study.size a.sentence k))) s.clause

  of_instance : (s : Sourced) (place : ℕ) (a : Titled) (k : ℕ) → IsIn (from_instance study.size place a.sentence k) s → IsOfInstance s place a k
  of_instance s place a k i =
      let r = in_map (λ (c : Clause). record { clause = c; origin = Instance place k }) (clauses_of study.size (plus (instance_of study.size a.sentence k))) s i in (
        ap (λ (t : Sourced). t.origin) (sym r.2),
        subst (IsIn (clauses_of study.size (plus (instance_of study.size a.sentence k)))) (ap (λ (t : Sourced). t.clause) r.2) r.1,
      )

  of_axiom : (s : Sourced) (place : ℕ) (o : Option Titled) → slice_get study.axioms place ≡ o → IsIn (from_axiom study.size place o) s → (a : Titled) × (k : ℕ) × (slice_get study.axioms place ≡ Some a) × IsOfInstance s place a k
  of_axiom s place None e i = absurd i
  of_axiom s place (Some a) e i =
      let here = in_firsts [] (flat_map (from_instance study.size place a.sentence) (below (instance_count study.size a.sentence))) s i in
      let r = in_flat_map (from_instance study.size place a.sentence) (below (instance_count study.size a.sentence)) s here in
      (a, r.0, e, of_instance s place a r.0 r.2)

  module _ (instances : List Cited) where
    abbrev daxioms : List Titled
    daxioms = axioms_from study 0 instances

    -- the closed body of an instance, by the axiom at its place
    pub closed_is : (place k : ℕ) (a : Titled) → slice_get study.axioms place ≡ Some a → closed_at (slice_get study.axioms place) (values_at study (record { «axiom» = place; number = k })) ≡ closed_body a (instance_values study.size a.sentence k)
    closed_is place k a e = ap (λ (o : Option Titled). closed_at o (option_map_or (λ (b : Titled). instance_values study.size b.sentence k) o [])) e

    has_closed : (i k : ℕ) (a : Titled) (closed : Tree) (name : List ℕ) (c : Clause) → closed ≡ closed_body a (instance_values study.size a.sentence k) → IsIn (clauses_of study.size (plus (instance_of study.size a.sentence k))) c
        → HasClause (from_axiom study.size i (Some (record { name = name; sentence = closed }))) c
    has_closed i k a closed name c is in_c =
        let values = instance_values study.size a.sentence k in
        let one = is_instance study.size a k in
        let clauses : clauses_of study.size (plus (instance_of study.size closed 0)) ≡ clauses_of study.size (plus (instance_of study.size a.sentence k)) = ap (λ (f : Tree). clauses_of study.size (plus (instance_of study.size f 0))) is ∙ one.clauses in
        let count : instance_count study.size closed ≡ 1 = ap (instance_count study.size) is ∙ one.one in
        let there : IsIn (from_instance study.size i closed 0) (record { clause = c; origin = Instance i 0 }) = map_in (λ (d : Clause). record { clause = d; origin = Instance i 0 }) (clauses_of study.size (plus (instance_of study.size closed 0))) c (subst (λ (ds : List Clause). IsIn ds c) (sym clauses) in_c) in
        kept_first (flat_map (from_instance study.size i closed) (below (instance_count study.size closed))) (record { clause = c; origin = Instance i 0 })
        (flat_map_in (from_instance study.size i closed) (below (instance_count study.size closed)) 0 (record { clause = c; origin = Instance i 0 }) (in_below (instance_count study.size closed) 0 (omega (arith, count))) there)

    instance_stands : (s : Sourced) (place : ℕ) (a : Titled) (k : ℕ) → slice_get study.axioms place ≡ Some a → IsOfInstance s place a k → IsFrameOrCited instances s.origin
        → HasClause (study_clauses study.size daxioms (below (length instances))) s.clause
    instance_stands s place a k e of covered =
        let c : Cited = record { «axiom» = place; number = k } in
        let at = subst (IsFrameOrCited instances) of.0 covered in
        let kept = has_closed at.0 k a (axiom_of study at.0 c).sentence (instance_name at.0) s.clause (closed_is place k a e) of.1 in
        let here : IsIn (from_axiom study.size at.0 (slice_get daxioms at.0)) kept.0 = subst (λ (o : Option Titled). IsIn (from_axiom study.size at.0 o) kept.0) (sym (derived_get study instances at.0 c at.1)) kept.1 in (
          kept.0,
          in_right frames _ kept.0 (flat_map_in (λ p. from_axiom study.size p (slice_get daxioms p)) (below (length instances)) at.0 kept.0 (in_below (length instances) at.0 (slice_get_within instances at.0 c at.1)) here),
          kept.2,
        )

    source_stands : (core : List ℕ) (s : Sourced) → IsIn (study_clauses study.size study.axioms core) s → IsFrameOrCited instances s.origin → HasClause (study_clauses study.size daxioms (below (length instances))) s.clause
    source_stands core s i covered = elim (in_append frames (flat_map (λ p. from_axiom study.size p (slice_get study.axioms p)) core) s i) [
      | inl h ↦ (s, in_left frames _ s h, refl)
      | inr h ↦
          let r = in_flat_map (λ p. from_axiom study.size p (slice_get study.axioms p)) core s h in
          let o = of_axiom s r.0 (slice_get study.axioms r.0) refl r.2 in
          instance_stands s r.0 o.0 o.1 o.2 o.3 covered
    ]

pub clauses_stand : (study : Question) (core : List ℕ) (instances : List Cited) (j : ℕ) (s : Sourced) → slice_get (study_clauses study.size study.axioms core) j ≡ Some s → IsFrameOrCited instances s.origin
    → (place : ℕ) × (slice_get (derived_clauses study instances) place ≡ Some s.clause)
clauses_stand study core instances j s e covered =
    let has = source_stands study instances core s (in_at (study_clauses study.size study.axioms core) j s e) covered in
    at_in (derived_clauses study instances) s.clause
    (subst (IsIn (derived_clauses study instances)) has.2 (map_in (λ (t : Sourced). t.clause) (study_clauses study.size (axioms_from study 0 instances) (below (length instances))) has.0 has.1))
