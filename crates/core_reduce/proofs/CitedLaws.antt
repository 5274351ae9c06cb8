-- What a trimmed derivation cites is what it needs.
use Rattle.std.proofs.Common.{◌≡◌, refl, sym, ◌∙◌, ap, ap₂, subst, ℕ, zero, suc, ◌<◌, ◌≤◌, Bool, true, ◌&&◌, inl, inr, List, [], ◌∷◌, map, filter, length, arith, Some, eqb-true, eq-eqb, true≢false}
use Rattle.std.specs.Prelude.{◌==◌, slice_get}
use Rattle.std.specs.List.{list_all, list_any}
use Rattle.std.proofs.lemmas.List.{length-map}
use Rattle.std.proofs.lemmas.Bool.{and_from, or_cases, or_left, or_right, cases_lt}
use Rattle.cnf.specs.declared.derivations.Line.{Line}
use Rattle.cnf.specs.declared.derivations.Step.{Step}
use Rattle.cnf.specs.declared.derivations.Step.TheVariants.{Add, Drop}
use Rattle.cnf.specs.Sat.{Clause}
use Rattle.cnf.specs.Fresh.{added_by}
use Rattle.cnf.specs.Trimmed.{is_cited_by, is_cited_in, is_trimmed}
use Rattle.meaning.specs.declared.clauses.Origin.{Origin}
use Rattle.meaning.specs.declared.clauses.Origin.TheVariants.{Frame, Instance}
use Rattle.meaning.specs.StudyClauses.{Sourced}
use Rattle.clause_form.specs.Sources.{clauses_in, origins_in, is_of, is_left}
use Rattle.core_reduce.specs.declared.needs.Focus.{Focus}
use Rattle.clause_form.specs.Cited.{is_of_axiom, is_axiom_id, is_axiom_cited_by, is_axiom_cited}
use Rattle.core_reduce.specs.Kept.{keeps}
use Rattle.core_reduce.specs.Moved.{stays, stays_id, moved_step, moved_line, hints_stay, lines_stay}
use Rattle.core_reduce.specs.Reducing.{IsFocus}
use Rattle.core_reduce.proofs.MovedLaws.{trimmed_moved}
use Rattle.core_reduce.proofs.PartLaws.{length-clauses}

-- ---- an axiom is cited where the clause of some id is, that comes from it

record CitesId (sources : List Sourced) (a : ℕ) (test : ℕ → Bool) : Type 0 where
  id : ℕ
  within : id ≤ length sources
  of_axiom : is_axiom_id sources a id ≡ true
  cited : test id ≡ true

id_within : (sources : List Sourced) (a id : ℕ) → is_axiom_id sources a id ≡ true → id ≤ length sources
id_within sources a zero h = omega arith
id_within sources a (suc j) h = at sources j h
  where
    at : (ss : List Sourced) (j : ℕ) → is_of_axiom a (slice_get (origins_in ss) j) ≡ true → suc j ≤ length ss
    at [] j h = absurd (true≢false (sym h))
    at (s ∷ ss) zero h = omega arith
    at (s ∷ ss) (suc j) h = let r = at ss j h in omega (arith, r)

hint_found : (sources : List Sourced) (a : ℕ) (hints : List ℕ) → list_any (is_axiom_id sources a) hints ≡ true → CitesId sources a (λ id. list_any (λ h. h == id) hints)
hint_found sources a [] h = absurd (true≢false (sym h))
hint_found sources a (x ∷ hints) h = elim (or_cases (is_axiom_id sources a x) (list_any (is_axiom_id sources a) hints) h) [
  | inl e ↦ record { id = x; within = id_within sources a x e; of_axiom = e; cited = or_left _ _ (eq-eqb x x refl) }
  | inr e ↦ let r = hint_found sources a hints e in record { id = r.id; within = r.within; of_axiom = r.of_axiom; cited = or_right _ _ r.cited }
]

step_found : (sources : List Sourced) (a : ℕ) (step : Step) → is_axiom_cited_by sources a step ≡ true → CitesId sources a (λ id. is_cited_by id step)
step_found sources a (Add id clause hints) h = hint_found sources a hints h
step_found sources a (Drop ids) h = absurd (true≢false (sym h))

lines_found : (sources : List Sourced) (a : ℕ) (lines : List Line) → is_axiom_cited sources lines a ≡ true → CitesId sources a (is_cited_in lines)
lines_found sources a [] h = absurd (true≢false (sym h))
lines_found sources a (line ∷ lines) h = elim (or_cases (is_axiom_cited_by sources a line.step) (is_axiom_cited sources lines a) h) [
  | inl e ↦ let r = step_found sources a line.step e in record { id = r.id; within = r.within; of_axiom = r.of_axiom; cited = or_left _ _ r.cited }
  | inr e ↦ let r = lines_found sources a lines e in record { id = r.id; within = r.within; of_axiom = r.of_axiom; cited = or_right _ _ r.cited }
]

hint_cited : (sources : List Sourced) (a id : ℕ) → is_axiom_id sources a id ≡ true → (hints : List ℕ) → list_any (λ h. h == id) hints ≡ true → list_any (is_axiom_id sources a) hints ≡ true
hint_cited sources a id e [] h = absurd (true≢false (sym h))
hint_cited sources a id e (x ∷ hints) h = elim (or_cases (x == id) (list_any (λ y. y == id) hints) h) [
  | inl f ↦ or_left _ _ (subst (λ (n : ℕ). is_axiom_id sources a n ≡ true) (sym (eqb-true x id f)) e)
  | inr f ↦ or_right _ _ (hint_cited sources a id e hints f)
]

step_cited : (sources : List Sourced) (a id : ℕ) → is_axiom_id sources a id ≡ true → (step : Step) → is_cited_by id step ≡ true → is_axiom_cited_by sources a step ≡ true
step_cited sources a id e (Add k clause hints) h = hint_cited sources a id e hints h
step_cited sources a id e (Drop ids) h = absurd (true≢false (sym h))

lines_cited : (sources : List Sourced) (a id : ℕ) → is_axiom_id sources a id ≡ true → (lines : List Line) → is_cited_in lines id ≡ true → is_axiom_cited sources lines a ≡ true
lines_cited sources a id e [] h = absurd (true≢false (sym h))
lines_cited sources a id e (line ∷ lines) h = elim (or_cases (is_cited_by id line.step) (is_cited_in lines id) h) [
  | inl f ↦ or_left _ _ (step_cited sources a id e line.step f)
  | inr f ↦ or_right _ _ (lines_cited sources a id e lines f)
]

-- ---- no hint names a clause of an axiom that is gone

module _ (sources : List Sourced) (keep : ℕ → Bool) (lines : List Line) (kept : (a : ℕ) → is_axiom_cited sources lines a ≡ true → keep a ≡ true) where
  -- the axioms of a part of the hints are cited
  abbrev AreCited : (ℕ → Bool) → Type 0
  AreCited test = (a : ℕ) → test a ≡ true → is_axiom_cited sources lines a ≡ true

  place_stays : (ss : List Sourced) (j : ℕ) → ((a : ℕ) → is_of_axiom a (slice_get (origins_in ss) j) ≡ true → keep a ≡ true) → stays (is_left keep) ss j ≡ true
  place_stays [] j h = refl
  place_stays (s ∷ ss) zero h = of s.origin h
    where
      of : (o : Origin) → ((a : ℕ) → is_of_axiom a (Some o) ≡ true → keep a ≡ true) → is_of keep o ≡ true
      of (Frame p) g = refl
      of (Instance b k) g = g b (eq-eqb b b refl)
  place_stays (s ∷ ss) (suc j) h = place_stays ss j h

  id_stays : (id : ℕ) → ((a : ℕ) → is_axiom_id sources a id ≡ true → keep a ≡ true) → stays_id (is_left keep) sources id ≡ true
  id_stays zero h = refl
  id_stays (suc j) h = place_stays sources j h

  ids_stay : (hints : List ℕ) → AreCited (λ a. list_any (is_axiom_id sources a) hints) → list_all (stays_id (is_left keep) sources) hints ≡ true
  ids_stay [] h = refl
  ids_stay (x ∷ hints) h = and_from _ _ (id_stays x (λ a e. kept a (h a (or_left _ _ e)))) (ids_stay hints (λ a e. h a (or_right _ _ e)))

  step_stays : (step : Step) → AreCited (λ a. is_axiom_cited_by sources a step) → hints_stay (is_left keep) sources step ≡ true
  step_stays (Add id clause hints) h = ids_stay hints h
  step_stays (Drop ids) h = refl

  some_stay : (part : List Line) → AreCited (is_axiom_cited sources part) → lines_stay (is_left keep) sources part ≡ true
  some_stay [] h = refl
  some_stay (line ∷ part) h = and_from _ _ (step_stays line.step (λ a e. h a (or_left _ _ e))) (some_stay part (λ a e. h a (or_right _ _ e)))

  pub all_stay : lines_stay (is_left keep) sources lines ≡ true
  all_stay = some_stay lines (λ a e. e)

-- ---- moving keeps the clauses that are added

pub added-moved : (keep : Sourced → Bool) (sources : List Sourced) (test : Clause → Bool) (lines : List Line) → list_all (λ (line : Line). test (added_by line.step)) (map (moved_line keep sources) lines) ≡ list_all (λ (line : Line). test (added_by line.step)) lines
added-moved keep sources test [] = refl
added-moved keep sources test (line ∷ lines) = ap₂ (λ a b. a && b) (ap test (same line.step)) (added-moved keep sources test lines)
  where
    same : (step : Step) → added_by (moved_step keep sources step) ≡ added_by step
    same (Add id clause hints) = refl
    same (Drop ids) = refl

-- ---- the focus

-- a flag beyond the list is not set
flag_beyond : (gone : List Bool) (a : ℕ) → length gone ≤ a → keeps gone a ≡ true
flag_beyond [] a h = refl
flag_beyond (b ∷ gone) zero h = absurd (omega arith)
flag_beyond (b ∷ gone) (suc a) h = flag_beyond gone a (omega (arith, h))

pub is_focus : (sources : List Sourced) (given : List Line) (count : ℕ) (trimmed : List Line) (clauses : List Clause) (f : Focus) → clauses_in sources ≡ clauses →
    is_trimmed clauses trimmed ≡ true →
    ((test : Clause → Bool) → list_all (λ (line : Line). test (added_by line.step)) given ≡ true → list_all (λ (line : Line). test (added_by line.step)) trimmed ≡ true) →
    ((id : ℕ) → id ≤ length clauses → is_cited_in trimmed id ≡ true → is_cited_in given id ≡ true) → length trimmed ≤ length given →
    length f.gone.items ≡ count → ((a : ℕ) → a < count → keeps f.gone.items a ≡ is_axiom_cited sources trimmed a) →
    f.clauses ≡ filter (is_left (keeps f.gone.items)) sources → f.proof ≡ map (moved_line (is_left (keeps f.gone.items)) sources) trimmed →
    IsFocus sources given count f
is_focus sources given count trimmed clauses f same h no_new no_hint no_more size flags left proof = record {
  flags = size;
  clauses = left;
  trimmed = subst (λ (p : List Line). is_trimmed (clauses_in f.clauses) p ≡ true) (sym proof) (subst (λ (ss : List Sourced). is_trimmed (clauses_in ss) (map (moved_line (is_left (keeps f.gone.items)) sources) trimmed) ≡ true) (sym left)
      (trimmed_moved sources (is_left (keeps f.gone.items)) trimmed (subst (λ (cs : List Clause). is_trimmed cs trimmed ≡ true) (sym same) h) (all_stay sources (keeps f.gone.items) trimmed kept)));
  no_new_clause = λ test g. ap (list_all (λ (line : Line). test (added_by line.step))) proof ∙ added-moved (is_left (keeps f.gone.items)) sources test trimmed ∙ no_new test g;
  no_more =
      let moved : length f.proof ≡ length (map (moved_line (is_left (keeps f.gone.items)) sources) trimmed) = ap length proof in
      let all : length (map (moved_line (is_left (keeps f.gone.items)) sources) trimmed) ≡ length trimmed = length-map trimmed (moved_line (is_left (keeps f.gone.items)) sources) in
      omega (arith, moved, all, no_more);
  cited = λ a lt e.
      let r = lines_found sources a trimmed (sym (flags a lt) ∙ e) in
      let few = length-clauses sources in
      let few' : length (clauses_in sources) ≡ length clauses = ap length same in
      lines_cited sources a r.id r.of_axiom given (no_hint r.id (omega (arith, r.within, few, few')) r.cited);
}
  where
    kept : (a : ℕ) → is_axiom_cited sources trimmed a ≡ true → keeps f.gone.items a ≡ true
    kept a e = elim (cases_lt a count) [ inl lt ↦ flags a lt ∙ e | inr le ↦ flag_beyond f.gone.items a (omega (arith, le, size)) ]
