-- What is written of a trimmed derivation is read again, and accepted.
use Rattle.std.proofs.Common.{◌≡◌, refl, sym, subst, ℕ, suc, ◌+◌, ◌≤◌, Bool, true, false, not, ◌&&◌, cond, List, [], ◌∷◌, ◌++◌, map, length, length-append, Option, Some, None, Ok, arith, eqb-true, le-leb, true≢false}
use Rattle.std.specs.Prelude.{◌==◌, nat_le}
use Rattle.std.specs.List.{list_all, list_any, enumerate_from}
use Rattle.std.proofs.lemmas.Bool.{and_parts, and_from}
use Rattle.cnf.specs.declared.derivations.Line.{Line}
use Rattle.cnf.specs.declared.derivations.LineFault.{LineFault}
use Rattle.cnf.specs.declared.derivations.Step.{Step}
use Rattle.cnf.specs.declared.derivations.Step.TheVariants.{Add, Drop}
use Rattle.cnf.specs.Signed.{Signed}
use Rattle.cnf.specs.Sat.{Clause, opposite_lit}
use Rattle.cnf.specs.Derived.{StandingClauses, clause_under, Effect, Forces, without, add_fault, after_add, after_step, fault_from, IsAccepted}
use Rattle.cnf.specs.Fresh.{is_over, added_by, AreOver}
use Rattle.cnf.specs.Trimmed.{is_in_option, effect_under, is_falsified_effect, is_used, are_hints_trimmed, is_cited_by, is_empty_clause, is_step_trimmed, is_trimmed_from, is_trimmed}
use Rattle.cnf.proofs.TrimmedLaws.{trimmed_accepted}
use Rattle.verdicts.specs.Numbers.{number_text}
use Rattle.clause_text.specs.Dimacs.{clause_text}
use Rattle.clause_text.specs.Lrat.{hints_text, step_text, lrat_text}
use Rattle.clause_text.specs.ReadLrat.{most_id, read_lrat}
use Rattle.clause_text.specs.Laws.{is_id, adds_in_range, placed_from}
use Rattle.clause_text.proofs.LineRoundLemmas.{written_lines_are_read}

-- ---- the ids of clauses that stand

abbrev are_ids : StandingClauses → Bool
are_ids standing = list_all (λ (s : ℕ × Clause). is_id s.0) standing

id_from : (n : ℕ) → 1 ≤ n → n ≤ 1000000000 → is_id n ≡ true
id_from n low high = and_from (nat_le 1 n) (nat_le n most_id) (le-leb 1 n low) (le-leb n most_id (omega (arith, high)))

ids_of_clauses : (n : ℕ) (clauses : List Clause) → 1 ≤ n → n + length clauses ≤ 1000000000 → are_ids (enumerate_from n clauses) ≡ true
ids_of_clauses n [] low few = refl
ids_of_clauses n (c ∷ cs) low few =
    and_from (is_id n) (are_ids (enumerate_from (n + 1) cs)) (id_from n low (omega (arith, few))) (ids_of_clauses (n + 1) cs (omega arith) (omega (arith, few)))

-- a clause stands under an id
under_id : (standing : StandingClauses) (id : ℕ) (clause : Clause) → are_ids standing ≡ true → clause_under standing id ≡ Some clause → is_id id ≡ true
under_id [] id clause ids is = absurd (cc)
under_id ((k, c) ∷ rest) id clause ids is =
    let a = and_parts (is_id k) (are_ids rest) ids in
    by_test (under_id rest id clause a.1) a.0 (k == id) refl is
  where
    by_test : (clause_under rest id ≡ Some clause → is_id id ≡ true) → is_id k ≡ true → (b : Bool) → (k == id) ≡ b → cond b (Some c) (clause_under rest id) ≡ Some clause → is_id id ≡ true
    by_test later here true e h = subst (λ (n : ℕ). is_id n ≡ true) (eqb-true k id e) here
    by_test later here false e h = later h

-- ---- the hints of a trimmed line

last_id : (standing : StandingClauses) (id : ℕ) (known : List Signed) (o : Option Clause) → are_ids standing ≡ true → clause_under standing id ≡ o → is_falsified_effect (effect_under known o) ≡ true → is_id id ≡ true
last_id standing id known None ids is h = absurd (true≢false (sym h))
last_id standing id known (Some clause) ids is h = under_id standing id clause ids is

used_id : (standing : StandingClauses) (later : List ℕ) (id : ℕ) (known : List Signed) (o : Option Clause) (go : Signed → Bool) → are_ids standing ≡ true → clause_under standing id ≡ o
    → is_used standing later (effect_under known o) go ≡ true → is_id id ≡ true
used_id standing later id known None go ids is h = absurd (true≢false (sym h))
used_id standing later id known (Some clause) go ids is h = under_id standing id clause ids is

used_next : (standing : StandingClauses) (later : List ℕ) (e : Effect) (go : Signed → Bool) → is_used standing later e go ≡ true → (l : Signed) × (go l ≡ true)
used_next standing later (Forces l) go h = (l, (and_parts (list_any (λ i. is_in_option (opposite_lit l) (clause_under standing i)) later) (go l) h).1)
used_next standing later e go h = absurd (true≢false (sym h))

hints_are_ids : (standing : StandingClauses) (ids : List ℕ) (known : List Signed) → are_ids standing ≡ true → are_hints_trimmed standing ids known ≡ true → list_all is_id ids ≡ true
hints_are_ids standing [] known good h = absurd (true≢false (sym h))
hints_are_ids standing (id ∷ []) known good h = and_from (is_id id) true (last_id standing id known (clause_under standing id) good refl h) refl
hints_are_ids standing (id ∷ next ∷ ids) known good h =
    let more = used_next standing (next ∷ ids) (effect_under known (clause_under standing id)) (λ l. are_hints_trimmed standing (next ∷ ids) (l ∷ known)) h in
    and_from (is_id id) (list_all is_id (next ∷ ids))
    (used_id standing (next ∷ ids) id known (clause_under standing id) (λ l. are_hints_trimmed standing (next ∷ ids) (l ∷ known)) good refl h)
    (hints_are_ids standing (next ∷ ids) (more.0 ∷ known) good more.1)

-- ---- the lines

module _ (v : ℕ) where
  abbrev are_in_range : List Line → Bool
  are_in_range lines = list_all (λ (line : Line). adds_in_range v line.step) lines

  add_in_range : (standing : StandingClauses) (id k : ℕ) (clause : Clause) (hints : List ℕ) → are_ids standing ≡ true → is_id id ≡ true → is_over v clause ≡ true → (k == id) ≡ true
      → are_hints_trimmed standing hints (map opposite_lit clause) ≡ true → adds_in_range v (Add k clause hints) ≡ true
  add_in_range standing id k clause hints good fits over same h =
      and_from (is_id k) (is_over v clause && list_all is_id hints) (subst (λ (n : ℕ). is_id n ≡ true) (sym (eqb-true k id same)) fits)
      (and_from (is_over v clause) (list_all is_id hints) over (hints_are_ids standing hints (map opposite_lit clause) good h))

  step_in_range : (standing : StandingClauses) (id : ℕ) (step : Step) (lines : List Line) (test : StandingClauses → Bool) → are_ids standing ≡ true → is_id id ≡ true → is_over v (added_by step) ≡ true
      → is_step_trimmed standing id step lines test ≡ true → ((s : StandingClauses) → are_ids s ≡ true → test s ≡ true → are_in_range lines ≡ true) → (adds_in_range v step && are_in_range lines) ≡ true
  step_in_range standing id (Drop ids) lines test good fits over h more = absurd (true≢false (sym h))
  step_in_range standing id (Add k clause hints) [] test good fits over h more =
      let a = and_parts (k == id && is_empty_clause clause) (are_hints_trimmed standing hints (map opposite_lit clause)) h in
      let b = and_parts (k == id) (is_empty_clause clause) a.0 in
      and_from (adds_in_range v (Add k clause hints)) true (add_in_range standing id k clause hints good fits over b.0 a.1) refl
  step_in_range standing id (Add k clause hints) (line ∷ later) test good fits over h more =
      let a = and_parts (k == id && not (is_empty_clause clause) && are_hints_trimmed standing hints (map opposite_lit clause) && list_any (λ l. is_cited_by id l.step) (line ∷ later)) (test ((k, clause) ∷ standing)) h in
      let b = and_parts (k == id && not (is_empty_clause clause) && are_hints_trimmed standing hints (map opposite_lit clause)) (list_any (λ l. is_cited_by id l.step) (line ∷ later)) a.0 in
      let d = and_parts (k == id && not (is_empty_clause clause)) (are_hints_trimmed standing hints (map opposite_lit clause)) b.0 in
      let same = (and_parts (k == id) (not (is_empty_clause clause)) d.0).0 in
      let here : is_id k ≡ true = subst (λ (n : ℕ). is_id n ≡ true) (sym (eqb-true k id same)) fits in
      and_from (adds_in_range v (Add k clause hints)) (are_in_range (line ∷ later)) (add_in_range standing id k clause hints good fits over same d.1)
      (more ((k, clause) ∷ standing) (and_from (is_id k) (are_ids standing) here good) a.1)

  lines_in_range : (lines : List Line) (standing : StandingClauses) (id : ℕ) → are_ids standing ≡ true → 1 ≤ id → id + length lines ≤ 1000000000 → is_trimmed_from standing id lines ≡ true → AreOver v lines
      → are_in_range lines ≡ true
  lines_in_range [] standing id good low few h over = refl
  lines_in_range (line ∷ lines) standing id good low few h over =
      let o = and_parts (is_over v (added_by line.step)) (list_all (λ (l : Line). is_over v (added_by l.step)) lines) over in
      step_in_range standing id line.step lines (λ s. is_trimmed_from s (id + 1) lines) good (id_from id low (omega (arith, few))) o.0 h
      (λ s good' k. lines_in_range lines s (id + 1) good' (omega arith) (omega (arith, few)) k o.1)

-- ---- a text has at least as many bytes as lines

one_longer : (text rest : List ℕ) (c : ℕ) → suc (length rest) ≤ length ((text ++ c ∷ []) ++ rest)
one_longer text rest c =
    let all : length ((text ++ c ∷ []) ++ rest) ≡ length (text ++ c ∷ []) + length rest = length-append (text ++ c ∷ []) rest in
    let front : length (text ++ c ∷ []) ≡ length text + 1 = length-append text (c ∷ []) in
    omega (arith, all, front)

add_longer : (k : ℕ) (clause : Clause) (hints : List ℕ) (lines : List Line) → length lines ≤ length (lrat_text lines) → suc (length lines) ≤ length (step_text (Add k clause hints) ++ lrat_text lines)
add_longer k clause hints lines rest =
    let one : suc (length (lrat_text lines)) ≤ length (step_text (Add k clause hints) ++ lrat_text lines) = one_longer (number_text k ++ 32 ∷ clause_text clause ++ 32 ∷ hints_text hints) (lrat_text lines) 10 in
    omega (arith, rest, one)

step_longer : (standing : StandingClauses) (id : ℕ) (step : Step) (lines : List Line) (test : StandingClauses → Bool) → is_step_trimmed standing id step lines test ≡ true
    → ((s : StandingClauses) → test s ≡ true → length lines ≤ length (lrat_text lines)) → suc (length lines) ≤ length (step_text step ++ lrat_text lines)
step_longer standing id (Drop ids) lines test h more = absurd (true≢false (sym h))
step_longer standing id (Add k clause hints) [] test h more = add_longer k clause hints [] (omega arith)
step_longer standing id (Add k clause hints) (line ∷ later) test h more =
    let a = and_parts (k == id && not (is_empty_clause clause) && are_hints_trimmed standing hints (map opposite_lit clause) && list_any (λ l. is_cited_by id l.step) (line ∷ later)) (test ((k, clause) ∷ standing)) h in
    add_longer k clause hints (line ∷ later) (more ((k, clause) ∷ standing) a.1)

lines_shorter : (lines : List Line) (standing : StandingClauses) (id : ℕ) → is_trimmed_from standing id lines ≡ true → length lines ≤ length (lrat_text lines)
lines_shorter [] standing id h = absurd (true≢false (sym h))
lines_shorter (line ∷ lines) standing id h =
    step_longer standing id line.step lines (λ s. is_trimmed_from s (id + 1) lines) h (λ s k. lines_shorter lines s (id + 1) k)

-- ---- lines are accepted wherever they stand in a text

placed_add : (fault : Option LineFault) (at at' : ℕ) (clause : Clause) (go go' : Option (ℕ × LineFault)) → (go ≡ None → go' ≡ None) → after_add fault at clause go ≡ None → after_add fault at' clause go' ≡ None
placed_add (Some fault) at at' clause go go' next h = absurd (cc)
placed_add None at at' [] go go' next h = refl
placed_add None at at' (l ∷ ls) go go' next h = next h

placed_step : (step : Step) (at at' : ℕ) (standing : StandingClauses) (last : ℕ) (go go' : StandingClauses → ℕ → Option (ℕ × LineFault)) → ((s : StandingClauses) (k : ℕ) → go s k ≡ None → go' s k ≡ None)
    → after_step step at standing last go ≡ None → after_step step at' standing last go' ≡ None
placed_step (Drop ids) at at' standing last go go' next h = next (without ids standing) last h
placed_step (Add id clause hints) at at' standing last go go' next h =
    placed_add (add_fault standing last id clause hints) at at' clause (go ((id, clause) ∷ standing) id) (go' ((id, clause) ∷ standing) id) (next ((id, clause) ∷ standing) id) h

placed_lines : (n : ℕ) (lines : List Line) (standing : StandingClauses) (last end end' : ℕ) → fault_from lines standing last end ≡ None → fault_from (placed_from n lines) standing last end' ≡ None
placed_lines n [] standing last end end' h = absurd (cc)
placed_lines n (line ∷ lines) standing last end end' h =
    placed_step line.step line.at n standing last (λ s k. fault_from lines s k (line.at + 1)) (λ s k. fault_from (placed_from (n + 1) lines) s k (n + 1))
    (λ s k. placed_lines (n + 1) lines s k (line.at + 1) (n + 1)) h

-- a text gives an accepted derivation
pub record GivesAccepted (v : ℕ) (clauses : List Clause) (text : List ℕ) : Type 0 where
  pub lines : List Line
  pub read : read_lrat v text ≡ Ok lines
  pub accepted : IsAccepted clauses lines

pub written_accepted : (v : ℕ) (clauses : List Clause) (lines : List Line) → length clauses ≤ 4000000 → length (lrat_text lines) ≤ 536870912 → is_trimmed clauses lines ≡ true → AreOver v lines
    → GivesAccepted v clauses (lrat_text lines)
written_accepted v clauses lines few fits trimmed over =
    let short : length lines ≤ length (lrat_text lines) = lines_shorter lines (enumerate_from 1 clauses) (length clauses + 1) trimmed in
    let ids : are_ids (enumerate_from 1 clauses) ≡ true = ids_of_clauses 1 clauses (omega arith) (omega (arith, few)) in
    let within = lines_in_range v lines (enumerate_from 1 clauses) (length clauses + 1) ids (omega arith) (omega (arith, few, short, fits)) trimmed over in
    record {
      lines = placed_from 1 lines;
      read = written_lines_are_read v lines within;
      accepted = placed_lines 1 lines (enumerate_from 1 clauses) (length clauses) 1 1 (trimmed_accepted clauses lines trimmed);
    }
