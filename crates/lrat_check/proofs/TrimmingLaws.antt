-- The three loops of trimming make the trimmed derivation.
use Rattle.std.proofs.Common.{◌≡◌, refl, sym, ◌∙◌, ap, subst, ℕ, ◌+◌, Bool, true, false, ◌&&◌, zero, suc, ◌<◌, ◌≤◌, cond, List, [], ◌∷◌, length, get_or, Result, Ok, Err, IfOk, arith, lt-ltb}
use Rattle.std.specs.List.{enumerate_from, list_all, list_any}
use Rattle.std.proofs.lemmas.Bool.{and_parts, and_from}
use Rattle.cnf.specs.declared.derivations.Step.{Step}
use Rattle.cnf.specs.declared.derivations.Step.TheVariants.{Add, Drop}
use Rattle.lrat_check.specs.Ranges.{has_next}
use Rattle.cnf.specs.Sat.{Clause}
use Rattle.cnf.specs.declared.derivations.Line.{Line}
use Rattle.cnf.specs.Derived.{StandingClauses, without, IsAccepted}
use Rattle.cnf.specs.Fresh.{added_by}
use Rattle.lrat_check.specs.Laws.{is_each_added}
use Rattle.lrat_check.specs.Trim.{Kept, cites_id, trimmed_hints, keep_step, kept_lines, renumbered, trimmed}
use Rattle.lrat_check.specs.Collected.{collected, keep_all, is_ended, kepts, AreMatched, flagged}
use Rattle.lrat_check.proofs.KeptLines.{no_new_clause}
use Rattle.lrat_check.proofs.CollectLaws.{kept-collected, accepted_ends, matched_kepts}

pub if_ok : {T E : Type 0} (P Q : T → Type 0) (r : Result T E) → ((x : T) → P x → Q x) → IfOk r P → IfOk r Q
if_ok P Q (Ok x) f h = f x h
if_ok P Q (Err e) f h = tt

pub trim_value : (clauses : List Clause) (lines : List Line) (ids places : List ℕ) (hints : List (List ℕ)) (keep : List Bool) (count : ℕ) (made : List Line) → count ≡ length clauses → length places ≡ length ids → length hints ≡ length ids → IsAccepted clauses lines → collected lines (enumerate_from 1 clauses) ≡ kepts lines ids places hints →
    ((all : List Kept) → AreMatched all lines ids places hints → is_ended all ≡ true → flagged keep all ≡ keep_all all) →
    ((all : List Kept) → AreMatched all lines ids places hints → made ≡ renumbered [] (count + 1) 1 (flagged keep all)) → made ≡ trimmed clauses lines
trim_value clauses lines ids places hints keep count made counted e f accepted same kept numbered =
    let rows = enumerate_from 1 clauses in
    let all = kepts lines ids places hints in
    let m = matched_kepts lines ids places hints e f in
    let ended : is_ended all ≡ true = subst (λ (ks : List Kept). is_ended ks ≡ true) same (accepted_ends lines rows (length clauses) 1 accepted) in
    numbered all m
    ∙ ap (renumbered [] (count + 1) 1) (kept all m ended ∙ ap keep_all (sym same) ∙ sym (kept-collected lines rows))
    ∙ ap (λ (n : ℕ). renumbered [] (n + 1) 1 (kept_lines lines rows)) counted

-- ---- what is added

each_added : (test : Clause → Bool) (lines : List Line) → list_all (λ (l : Line). test (added_by l.step)) lines ≡ true → list_all (λ (l : Line). is_each_added test l.step) lines ≡ true
each_added test [] h = refl
each_added test (line ∷ lines) h = let p = and_parts _ _ h in and_from _ _ (step line.step p.0) (each_added test lines p.1)
  where
    step : (s : Step) → test (added_by s) ≡ true → is_each_added test s ≡ true
    step (Add id clause hints) e = e
    step (Drop ids) e = refl

same_added : (test : Clause → Bool) (pairs : List (ℕ × ℕ)) (next at : ℕ) (ks : List Kept) → list_all (λ (l : Line). test (added_by l.step)) (renumbered pairs next at ks) ≡ list_all (λ (l : Line). is_each_added test l.step) (renumbered pairs next at ks)
same_added test pairs next at [] = refl
same_added test pairs next at (k ∷ ks) = ap (λ b. test k.clause && b) (same_added test ((k.id, next) ∷ pairs) (next + 1) (at + 1) ks)

pub trimmed_added : (clauses : List Clause) (lines : List Line) (test : Clause → Bool) → list_all (λ (l : Line). test (added_by l.step)) lines ≡ true → list_all (λ (l : Line). test (added_by l.step)) (trimmed clauses lines) ≡ true
trimmed_added clauses lines test h = same_added test [] (length clauses + 1) 1 (kept_lines lines (enumerate_from 1 clauses)) ∙ no_new_clause test clauses lines (each_added test lines h)

-- ---- the numbers of the lines

kept_length : (lines : List Line) (rows : StandingClauses) → length (kept_lines lines rows) ≤ length lines
kept_length [] rows = omega arith
kept_length (line ∷ lines) rows = step line.step (kept_length lines)
  where
    kept_if : (b : Bool) (k : Kept) (later : List Kept) → length later ≤ length lines → length (cond b (k ∷ later) later) ≤ suc (length lines)
    kept_if true k later le = omega (arith, le)
    kept_if false k later le = omega (arith, le)

    step : (s : Step) → ((rows : StandingClauses) → length (kept_lines lines rows) ≤ length lines) → length (keep_step s rows (kept_lines lines)) ≤ suc (length lines)
    step (Drop ids) ih = let le : length (kept_lines lines (without ids rows)) ≤ length lines = ih (without ids rows) in omega (arith, le)
    step (Add id [] hints) ih = omega arith
    step (Add id (l ∷ ls) hints) ih =
        let later = kept_lines lines ((id, l ∷ ls) ∷ rows) in
        kept_if (list_any (cites_id id) later) (record { id = id; clause = l ∷ ls; hints = trimmed_hints rows (l ∷ ls) hints }) later (ih ((id, l ∷ ls) ∷ rows))

renumbered_length : (pairs : List (ℕ × ℕ)) (next at : ℕ) (ks : List Kept) → length (renumbered pairs next at ks) ≡ length ks
renumbered_length pairs next at [] = refl
renumbered_length pairs next at (k ∷ ks) = ap suc (renumbered_length ((k.id, next) ∷ pairs) (next + 1) (at + 1) ks)

pub trimmed_length : (clauses : List Clause) (lines : List Line) → length (trimmed clauses lines) ≤ length lines
trimmed_length clauses lines =
    let ks = kept_lines lines (enumerate_from 1 clauses) in
    let same : length (trimmed clauses lines) ≡ length ks = renumbered_length [] (length clauses + 1) 1 ks in
    let le : length ks ≤ length lines = kept_length lines (enumerate_from 1 clauses) in
    omega (arith, same, le)

all_next : (pairs : List (ℕ × ℕ)) (next at : ℕ) (ks : List Kept) → at + length ks ≤ 4294967295 → list_all has_next (renumbered pairs next at ks) ≡ true
all_next pairs next at [] le = refl
all_next pairs next at (k ∷ ks) le = and_from _ _ (lt-ltb _ _ (omega (arith, le))) (all_next ((k.id, next) ∷ pairs) (next + 1) (at + 1) ks (omega (arith, le)))

pub trimmed_next : (clauses : List Clause) (lines : List Line) → length lines < 4294967295 → list_all has_next (trimmed clauses lines) ≡ true
trimmed_next clauses lines few =
    let le : length (kept_lines lines (enumerate_from 1 clauses)) ≤ length lines = kept_length lines (enumerate_from 1 clauses) in
    all_next [] (length clauses + 1) 1 (kept_lines lines (enumerate_from 1 clauses)) (omega (arith, le, few))

at_place : (pairs : List (ℕ × ℕ)) (next at : ℕ) (ks : List Kept) (k : ℕ) (d : Line) → k < length (renumbered pairs next at ks) → (get_or (renumbered pairs next at ks) k d).at ≡ at + k
at_place pairs next at [] k d lt = absurd (omega (arith, lt))
at_place pairs next at (x ∷ ks) zero d lt = omega arith
at_place pairs next at (x ∷ ks) (suc k) d lt = let e : (at + 1) + k ≡ at + suc k = omega arith in at_place ((x.id, next) ∷ pairs) (next + 1) (at + 1) ks k d (omega (arith, lt)) ∙ e

pub trimmed_numbered : (clauses : List Clause) (lines : List Line) (k : ℕ) (d : Line) → k < length (trimmed clauses lines) → (get_or (trimmed clauses lines) k d).at ≡ k + 1
trimmed_numbered clauses lines k d lt = let e : 1 + k ≡ k + 1 = omega arith in at_place [] (length clauses + 1) 1 (kept_lines lines (enumerate_from 1 clauses)) k d lt ∙ e
