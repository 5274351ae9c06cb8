-- Of a part the same is kept as of the clauses that it was made from.
use Rattle.std.proofs.Common.{◌≡◌, ◌==◌, ◌<◌, ◌≤◌, ◌+◌, ◌-◌, ◌&&◌, ℕ, zero, suc, Bool, true, false, List, [], ◌∷◌, ◌++◌, length, take, drop, map, filter, not, append_assoc, fold, refl, sym, ap, ap₂, ◌∙◌, subst, if◌then◌else◌, arith, true≢false, get_or, inl, inr, Some}
use Rattle.std.specs.Prelude.{All, slice_get}
use Rattle.std.proofs.lemmas.Bool.{and_from, and_parts, or_cases, or_left, or_right}
use Rattle.std.proofs.lemmas.List.{get_or-drop, length-drop, map-append, take_more}
use Rattle.std.proofs.lemmas.List.Elements.{filter-append}
use Rattle.std.proofs.lemmas.List.Folds.{list_any-append}
use Rattle.std.proofs.lemmas.List.Sums.{fold-append}
use Rattle.std.proofs.lemmas.Option.{slice_get-get_or, same_Some}
use Rattle.cnf.specs.Signed.{Signed, literal_code}
use Rattle.cnf.specs.Sat.{Clause, is_tautology, same_lit}
use Rattle.cnf.proofs.LitLaws.{same_lit-equal}
use Rattle.meaning.specs.StudyClauses.{Sourced, sorted}
use Rattle.clause_form.specs.Sources.{clauses_in, origin_of_number, origins_in, sourced}
use Rattle.clause_form.proofs.SourceLaws.{clauses-sourced}
use Rattle.grounding.specs.Distinct.{is_seen, kept_with, plain_rows, same_clause}
use Rattle.grounding.specs.Parts.{IsThere, KeepSame, from_rows, with_origin}
use Rattle.grounding.proofs.FirstsLaws.{same_codes}

-- ---- what is kept

pub same-of : {xs ys : List Sourced} → xs ≡ ys → KeepSame xs ys
same-of e kept = ap (fold kept_with kept) e

-- where a list has the clauses of another and some more
pub same-after : (new old more before : List Sourced) → KeepSame new (old ++ more) → KeepSame old before → KeepSame new (before ++ more)
same-after new old more before h k kept =
    h kept
    ∙ fold-append kept_with kept old more
    ∙ ap (λ ks. fold kept_with ks more) (k kept)
    ∙ sym (fold-append kept_with kept before more)

-- ---- rows one after another

from_rows-append : (origin : ℕ) (xs ys : List Clause) → from_rows origin (xs ++ ys) ≡ from_rows origin xs ++ from_rows origin ys
from_rows-append origin xs ys =
    ap (λ cs. map (λ c. with_origin c origin) (filter (λ c. not (is_tautology c)) cs)) (map-append sorted xs ys)
    ∙ ap (map (λ c. with_origin c origin)) (filter-append (λ c. not (is_tautology c)) (map sorted xs) (map sorted ys))
    ∙ map-append (λ c. with_origin c origin) (plain_rows xs) (plain_rows ys)

pub same-row : (out old new : List Sourced) (origin : ℕ) (rows : List Clause) (start k : ℕ) (row : Clause) → start ≤ k → k < length rows → row ≡ get_or rows k []
    → KeepSame new (old ++ from_rows origin (row ∷ [])) → KeepSame old (out ++ from_rows origin (take (k - start) (drop start rows)))
    → KeepSame new (out ++ from_rows origin (take (k + 1 - start) (drop start rows)))
same-row out old new origin rows start k row after within here more before =
    let so_far = take (k - start) (drop start rows) in
    let next : k + 1 - start ≡ k - start + 1 = omega (arith, after) in
    let place : start + (k - start) ≡ k = omega (arith, after) in
    let long = length-drop start rows in
    let inside : k - start < length (drop start rows) = omega (arith, after, within, long) in
    let one : take (k + 1 - start) (drop start rows) ≡ so_far ++ row ∷ [] =
    ap (λ n. take n (drop start rows)) next
    ∙ take_more (drop start rows) (k - start) [] inside
    ∙ ap (λ c. so_far ++ c ∷ []) (get_or-drop start rows (k - start) [] ∙ ap (λ n. get_or rows n []) place ∙ sym here) in
    subst (λ rs. KeepSame new (out ++ from_rows origin rs)) (sym one)
    (subst (λ ss. KeepSame new ss) (append_assoc out (from_rows origin so_far) (from_rows origin (row ∷ [])) ∙ ap (λ ss. out ++ ss) (sym (from_rows-append origin so_far (row ∷ []))))
    (same-after new old (from_rows origin (row ∷ [])) (out ++ from_rows origin so_far) more before))

pub two-rows : (out old new : List Sourced) (origin : ℕ) (first second : Clause) → KeepSame old (out ++ from_rows origin (first ∷ [])) → KeepSame new (old ++ from_rows origin (second ∷ []))
    → KeepSame new (out ++ from_rows origin (first ∷ second ∷ []))
two-rows out old new origin first second before more =
    subst (λ ss. KeepSame new ss) (append_assoc out (from_rows origin (first ∷ [])) (from_rows origin (second ∷ [])) ∙ ap (λ ss. out ++ ss) (sym (from_rows-append origin (first ∷ []) (second ∷ []))))
    (same-after new old (from_rows origin (second ∷ [])) (out ++ from_rows origin (first ∷ [])) more before)

-- ---- a clause that was kept

equal_clauses : (c d : Clause) → same_clause c d ≡ true → c ≡ d
equal_clauses [] [] e = refl
equal_clauses [] (y ∷ d) e = absurd (true≢false (sym e))
equal_clauses (x ∷ c) [] e = absurd (true≢false (sym e))
equal_clauses (x ∷ c) (y ∷ d) e =
    let both = and_parts (same_lit x y) (same_clause c d) e in
    ap₂ (λ l m. l ∷ m) (same_lit-equal x y both.0) (equal_clauses c d both.1)

seen_before : (kept : List Sourced) (s : Sourced) (c : Clause) → is_seen (clauses_in kept) c ≡ true → is_seen (clauses_in (kept ++ s ∷ [])) c ≡ true
seen_before kept s c h =
    ap (λ cs. is_seen cs c) (map-append (λ (k : Sourced). k.clause) kept (s ∷ []))
    ∙ list_any-append (same_clause c) (clauses_in kept) (s.clause ∷ [])
    ∙ or_left (is_seen (clauses_in kept) c) (is_seen (s.clause ∷ []) c) h

seen_last : (kept : List Sourced) (s : Sourced) (c : Clause) → same_clause c s.clause ≡ true → is_seen (clauses_in (kept ++ s ∷ [])) c ≡ true
seen_last kept s c h =
    ap (λ cs. is_seen cs c) (map-append (λ (k : Sourced). k.clause) kept (s ∷ []))
    ∙ list_any-append (same_clause c) (clauses_in kept) (s.clause ∷ [])
    ∙ or_right (is_seen (clauses_in kept) c) (is_seen (s.clause ∷ []) c) (or_left (same_clause c s.clause) false h)

stays : (kept xs : List Sourced) (c : Clause) → is_seen (clauses_in kept) c ≡ true → is_seen (clauses_in (fold kept_with kept xs)) c ≡ true
stays kept [] c h = h
stays kept (s ∷ xs) c h = stays (kept_with kept s) xs c (by (is_seen (clauses_in kept) s.clause))
  where
    by : (b : Bool) → is_seen (clauses_in (if b then kept else kept ++ s ∷ [])) c ≡ true
    by true = h
    by false = seen_before kept s c h

there_now : (kept : List Sourced) (s : Sourced) (c : Clause) → same_clause c s.clause ≡ true → is_seen (clauses_in (kept_with kept s)) c ≡ true
there_now kept s c h = by (is_seen (clauses_in kept) s.clause) refl
  where
    by : (b : Bool) → is_seen (clauses_in kept) s.clause ≡ b → is_seen (clauses_in (if b then kept else kept ++ s ∷ [])) c ≡ true
    by true e = subst (λ d. is_seen (clauses_in kept) d ≡ true) (sym (equal_clauses c s.clause h)) e
    by false e = seen_last kept s c h

there : (kept xs : List Sourced) (c : Clause) → is_seen (clauses_in xs) c ≡ true → is_seen (clauses_in (fold kept_with kept xs)) c ≡ true
there kept [] c h = absurd (true≢false (sym h))
there kept (s ∷ xs) c h = elim (or_cases (same_clause c s.clause) (is_seen (clauses_in xs) c) h) [
  | inl here ↦ stays (kept_with kept s) xs c (there_now kept s c here)
  | inr rest ↦ there (kept_with kept s) xs c rest
]

-- a clause that repeats an earlier one is not kept
pub same-repeat : (xs : List Sourced) (s : Sourced) → is_seen (clauses_in xs) s.clause ≡ true → KeepSame xs (xs ++ s ∷ [])
same-repeat xs s h kept =
    let so_far = fold kept_with kept xs in
    sym (fold-append kept_with kept xs (s ∷ []) ∙ ap (λ b. if b then so_far else so_far ++ s ∷ []) (there kept xs s.clause h))

-- ---- codes that are remembered

pub there-last : (clauses : List Clause) (first second : Signed) → IsThere (clauses ++ (first ∷ second ∷ []) ∷ []) (literal_code first, literal_code second)
there-last clauses first second some a b e f =
    let x : same_lit a first ≡ true = sym (same_codes a first) ∙ (let t : (literal_code a == literal_code first) ≡ true = grind (arith, e) in t) in
    let y : same_lit b second ≡ true = sym (same_codes b second) ∙ (let t : (literal_code b == literal_code second) ≡ true = grind (arith, f) in t) in
    list_any-append (same_clause (a ∷ b ∷ [])) clauses ((first ∷ second ∷ []) ∷ [])
    ∙ or_right (is_seen clauses (a ∷ b ∷ [])) (is_seen ((first ∷ second ∷ []) ∷ []) (a ∷ b ∷ []))
    (or_left (same_clause (a ∷ b ∷ []) (first ∷ second ∷ [])) false
    (and_from (same_lit a first) (same_lit b second && true) x (and_from (same_lit b second) true y refl)))

pub recent-there : (clauses : List Clause) (recent : List (ℕ × ℕ)) (k : ℕ) (pair : ℕ × ℕ) → All (IsThere clauses) recent → k < length recent → slice_get recent k ≡ Some pair → IsThere clauses pair
recent-there clauses recent k pair all within at =
    let here : get_or recent k pair ≡ pair = same_Some _ _ (sym (slice_get-get_or recent k pair within) ∙ at) in
    subst (IsThere clauses) here (all k pair within)

pub pushed-there : (clauses : List Clause) (origins : List ℕ) (before : List Sourced) (first second : Signed) (origin : ℕ) (pair : ℕ × ℕ) → length origins ≡ length clauses
    → sourced clauses origins ≡ before ++ with_origin (first ∷ second ∷ []) origin ∷ [] → pair ≡ (literal_code first, literal_code second) → IsThere clauses pair
pushed-there clauses origins before first second origin pair pairs e f =
    let all : clauses ≡ clauses_in before ++ (first ∷ second ∷ []) ∷ [] =
    sym (clauses-sourced clauses origins pairs) ∙ ap clauses_in e ∙ map-append (λ (k : Sourced). k.clause) before (with_origin (first ∷ second ∷ []) origin ∷ []) in
    subst (λ cs. IsThere cs pair) (sym all) (subst (IsThere (clauses_in before ++ (first ∷ second ∷ []) ∷ [])) (sym f) (there-last (clauses_in before) first second))

-- ---- what stands at a place

pub source-there : (xs : List Sourced) (k : ℕ) (d : Sourced) (clause : Clause) (origin : ℕ) → slice_get (clauses_in xs) k ≡ Some clause → slice_get (origins_in xs) k ≡ Some (origin_of_number origin)
    → get_or xs k d ≡ with_origin clause origin
source-there [] k d clause origin e f = absurd (let z : ⊥ = cc in z)
source-there (s ∷ xs) zero d clause origin e f =
    let c : s.clause ≡ clause = cc in
    let o : s.origin ≡ origin_of_number origin = cc in
    ap₂ (λ x y. record { clause = x; origin = y }) c o
source-there (s ∷ xs) (suc k) d clause origin e f = source-there xs k d clause origin e f
