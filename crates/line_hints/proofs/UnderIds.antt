-- The clause under an id: one of the given ones, or that of a line.
use Rattle.std.proofs.Common.{subst, ap, sym, ◌∙◌, ◌≡◌, refl, ℕ, zero, suc, ◌-◌, ◌<◌, ◌≤◌, arith, List, [], ◌++◌, length, get_or}
use Rattle.std.specs.Prelude.{slice_index_or}
use Rattle.std.proofs.lemmas.List.{get_or-map, length-map}
use Rattle.std.proofs.Math.ListN.{get_or-append, get_or-eq_default}
use Rattle.std.proofs.Math.Seq.{get_or-append_right}
use Rattle.cnf.specs.Sat.{Clause}
use Rattle.cnf.specs.Fresh.{added_by}
use Rattle.cnf.specs.declared.derivations.Line.{Line}
use Rattle.line_hints.specs.Ids.{all_added, clause_of_id}

-- the clause is one of the list
pub of_list : (clauses added : List Clause) (id : ℕ) → 1 ≤ id → id ≤ length clauses → clause_of_id (clauses ++ added) id ≡ slice_index_or clauses (id - 1) []
of_list clauses added zero least most = absurd (omega (arith, least))
of_list clauses added (suc k) least most =
    let place : suc k - 1 ≡ k = omega arith in
    get_or-append clauses added [] k (omega (arith, most)) ∙ ap (λ (i : ℕ). get_or clauses i []) (sym place)

-- or that of a line
pub of_line : (clauses : List Clause) (lines : List Line) (id : ℕ) (line : Line) → length clauses < id → id - 1 - length clauses < length lines →
    line ≡ get_or lines (id - 1 - length clauses) line → clause_of_id (clauses ++ all_added lines) id ≡ added_by line.step
of_line clauses lines zero line above within at = absurd (omega (arith, above))
of_line clauses lines (suc k) line above within at =
    let place : suc k - 1 ≡ k = omega arith in
    let here : k - length clauses < length lines = subst (λ (i : ℕ). i - length clauses < length lines) place within in
    let found : line ≡ get_or lines (k - length clauses) line = subst (λ (i : ℕ). line ≡ get_or lines (i - length clauses) line) place at in
    get_or-append_right clauses (all_added lines) k [] (omega (arith, above))
    ∙ get_or-map (λ (l : Line). added_by l.step) lines (k - length clauses) line [] here
    ∙ ap (λ (l : Line). added_by l.step) (sym found)

-- or empty
pub of_none : (clauses : List Clause) (lines : List Line) (id : ℕ) → length clauses < id → length lines ≤ id - 1 - length clauses → clause_of_id (clauses ++ all_added lines) id ≡ []
of_none clauses lines zero above beyond = refl
of_none clauses lines (suc k) above beyond =
    get_or-append_right clauses (all_added lines) k [] (omega (arith, above))
    ∙ get_or-eq_default (all_added lines) [] (omega (arith, beyond, length-map lines (λ (l : Line). added_by l.step)))
