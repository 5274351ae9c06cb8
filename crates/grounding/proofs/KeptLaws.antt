-- What was kept, with one clause more; and a list that passes a limit on the way passes it at the end.
use Rattle.std.proofs.Common.{◌≡◌, ◌<◌, ◌≤◌, ℕ, Bool, true, false, List, [], ◌∷◌, ◌++◌, length, fold, take, drop, refl, sym, ap, ◌∙◌, subst, if◌then◌else◌, arith, inl, inr, append_assoc, lt-ltb, ltb-true}
use Rattle.std.specs.Prelude.{nat_lt, sum_by, ◌⊎◌}
use Rattle.std.proofs.lemmas.Bool.{or_cases, or_left, or_right}
use Rattle.std.proofs.lemmas.List.{length-append, map-append, take-append-drop}
use Rattle.std.proofs.lemmas.List.Sums.{fold-append, sum_by-append}
use Rattle.cnf.specs.ClauseList.{ClauseList, IsFullFor, with_clause}
use Rattle.cnf.specs.Sat.{Clause}
use Rattle.meaning.specs.StudyClauses.{Sourced}
use Rattle.clause_form.specs.Refusals.{is_over_limits}
use Rattle.clause_form.specs.Sources.{clauses_in, sourced}
use Rattle.clause_form.proofs.SourceLaws.{clauses-sourced, sourced-append}
use Rattle.grounding.specs.Distinct.{Codes, HasSeen, is_seen, kept_with, seen_with}
use Rattle.grounding.specs.Kept.{AreKeptClauses}
use Rattle.grounding.specs.Parts.{with_origin}

-- ---- limits

abbrev pub IsOver : List Clause → Type 0
IsOver clauses = (4000000 < length clauses) ⊎ (60000000 < sum_by length clauses)

over-says : (clauses : List Clause) → is_over_limits clauses ≡ true → IsOver clauses
over-says clauses h = elim (or_cases (nat_lt 4000000 (length clauses)) (nat_lt 60000000 (sum_by length clauses)) h) [
  | inl e ↦ inl (ltb-true 4000000 (length clauses) e)
  | inr e ↦ inr (ltb-true 60000000 (sum_by length clauses) e)
]

over-from : (clauses : List Clause) → IsOver clauses → is_over_limits clauses ≡ true
over-from clauses (inl h) = or_left (nat_lt 4000000 (length clauses)) (nat_lt 60000000 (sum_by length clauses)) (lt-ltb 4000000 (length clauses) h)
over-from clauses (inr h) = or_right (nat_lt 4000000 (length clauses)) (nat_lt 60000000 (sum_by length clauses)) (lt-ltb 60000000 (sum_by length clauses) h)

over-append : (cs ds : List Clause) → is_over_limits cs ≡ true → is_over_limits (cs ++ ds) ≡ true
over-append cs ds h = over-from (cs ++ ds) (elim (over-says cs h) [
  | inl few ↦ inl (omega (arith, few, length-append cs ds))
  | inr few ↦ inr (omega (arith, few, sum_by-append length cs ds))
])

-- a list within the limits is not over them
pub within-not_over : (clauses : List Clause) → length clauses ≤ 4000000 → sum_by length clauses ≤ 60000000 → is_over_limits clauses ≡ false
within-not_over clauses few short = by (is_over_limits clauses) refl
  where
    by : (b : Bool) → is_over_limits clauses ≡ b → b ≡ false
    by true h = absurd (elim (over-says clauses h) [ inl l ↦ (let z : ⊥ = omega (arith, few, l) in z) | inr l ↦ (let z : ⊥ = omega (arith, short, l) in z) ])
    by false h = refl

-- ---- one clause more

clauses-push : (before kept : List Sourced) (s : Sourced) → clauses_in (before ++ (kept ++ s ∷ [])) ≡ clauses_in (before ++ kept) ++ s.clause ∷ []
clauses-push before kept s = ap clauses_in (sym (append_assoc before kept (s ∷ []))) ∙ map-append (λ (k : Sourced). k.clause) (before ++ kept) (s ∷ [])

-- what is kept of more clauses follows what is kept of fewer
pub over-grows : (before kept more : List Sourced) → is_over_limits (clauses_in (before ++ kept)) ≡ true → is_over_limits (clauses_in (before ++ fold kept_with kept more)) ≡ true
over-grows before kept [] h = h
over-grows before kept (s ∷ more) h = over-grows before (kept_with kept s) more (by (is_seen (clauses_in kept) s.clause))
  where
    by : (b : Bool) → is_over_limits (clauses_in (before ++ (if b then kept else kept ++ s ∷ []))) ≡ true
    by true = h
    by false = subst (λ (cs : List Clause). is_over_limits cs ≡ true) (sym (clauses-push before kept s)) (over-append (clauses_in (before ++ kept)) (s.clause ∷ []) h)

module _ (seen : Codes) (out : ClauseList) (before kept : List Sourced) (clause : Clause) (origin : ℕ) where
  pub kept-step : AreKeptClauses seen out before kept → (seen_after : Codes) (out_after : ClauseList)
      → out_after ≡ (if is_seen (clauses_in kept) clause then out else with_clause out clause origin)
      → HasSeen seen_after (seen_with (clauses_in kept) clause)
      → AreKeptClauses seen_after out_after before (kept_with kept (with_origin clause origin))
  kept-step is seen_after out_after = by (is_seen (clauses_in kept) clause)
    where
      by : (b : Bool) → out_after ≡ (if b then out else with_clause out clause origin)
          → HasSeen seen_after (if b then clauses_in kept else clauses_in kept ++ clause ∷ [])
          → AreKeptClauses seen_after out_after before (if b then kept else kept ++ with_origin clause origin ∷ [])
      by true e f = record {
        codes = f;
        pairs = ap (λ (o : ClauseList). length o.origins) e ∙ is.pairs ∙ sym (ap (λ (o : ClauseList). length o.clauses) e);
        sources = ap (λ (o : ClauseList). sourced o.clauses o.origins) e ∙ is.sources;
      }
      by false e f =
          let origins = length-append out.origins (origin ∷ []) in
          let clauses = length-append out.clauses (clause ∷ []) in
          record {
            codes = subst (HasSeen seen_after) (sym (map-append (λ (k : Sourced). k.clause) kept (with_origin clause origin ∷ []))) f;
            pairs = ap (λ (o : ClauseList). length o.origins) e ∙ (let both : length (out.origins ++ origin ∷ []) ≡ length (out.clauses ++ clause ∷ []) = omega (arith, origins, clauses, is.pairs) in both) ∙ sym (ap (λ (o : ClauseList). length o.clauses) e);
            sources =
                ap (λ (o : ClauseList). sourced o.clauses o.origins) e
                ∙ sourced-append out.clauses out.origins clause origin is.pairs
                ∙ ap (λ (ss : List Sourced). ss ++ with_origin clause origin ∷ []) is.sources
                ∙ append_assoc before kept (with_origin clause origin ∷ []);
          }

  -- a new clause for which the list is full makes it pass a limit
  pub full-step : AreKeptClauses seen out before kept → is_seen (clauses_in kept) clause ≡ false → IsFullFor out (length clause)
      → is_over_limits (clauses_in (before ++ kept_with kept (with_origin clause origin))) ≡ true
  full-step is new full =
      let all : clauses_in (before ++ kept) ≡ out.clauses = ap clauses_in (sym is.sources) ∙ clauses-sourced out.clauses out.origins is.pairs in
      let more : clauses_in (before ++ kept_with kept (with_origin clause origin)) ≡ out.clauses ++ clause ∷ [] =
      ap (λ b. clauses_in (before ++ (if b then kept else kept ++ with_origin clause origin ∷ []))) new
      ∙ clauses-push before kept (with_origin clause origin)
      ∙ ap (λ (cs : List Clause). cs ++ clause ∷ []) all in
      subst (λ (cs : List Clause). is_over_limits cs ≡ true) (sym more) (over-from (out.clauses ++ clause ∷ []) (by full))
    where
      by : IsFullFor out (length clause) → IsOver (out.clauses ++ clause ∷ [])
      by (inl h) = inl (omega (arith, h, length-append out.clauses (clause ∷ [])))
      by (inr h) = inr (omega (arith, h, sum_by-append length out.clauses (clause ∷ [])))

-- what is kept, written another way
pub kept-as : {seen : Codes} {out : ClauseList} {before ss ts : List Sourced} → ss ≡ ts → AreKeptClauses seen out before ss → AreKeptClauses seen out before ts
kept-as {seen} {out} {before} e is = subst (AreKeptClauses seen out before) e is

pub over-as : (before : List Sourced) {ss ts : List Sourced} → ss ≡ ts → is_over_limits (clauses_in (before ++ ss)) ≡ true → is_over_limits (clauses_in (before ++ ts)) ≡ true
over-as before e over = subst (λ (ss : List Sourced). is_over_limits (clauses_in (before ++ ss)) ≡ true) e over

-- ---- a part

-- what is over a limit after some clauses of a part is so after all
pub over-part : (before kept more : List Sourced) (k : ℕ) → is_over_limits (clauses_in (before ++ fold kept_with kept (take k more))) ≡ true
    → is_over_limits (clauses_in (before ++ fold kept_with kept more)) ≡ true
over-part before kept more k h =
    subst (λ (ss : List Sourced). is_over_limits (clauses_in (before ++ ss)) ≡ true)
    (sym (fold-append kept_with kept (take k more) (drop k more)) ∙ ap (fold kept_with kept) (take-append-drop k more))
    (over-grows before (fold kept_with kept (take k more)) (drop k more) h)
