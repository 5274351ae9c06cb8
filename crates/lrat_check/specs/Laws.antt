-- What holds of the trimmed derivation.
use Rattle.std.specs.Prelude.{ℕ, ◌≤◌, Bool, true, not, List, length, IsTrue}
use Rattle.std.specs.List.{list_all}
use Rattle.cnf.specs.Sat.{Clause, is_tautology}
use Rattle.cnf.specs.declared.derivations.Line.{Line}
use Rattle.cnf.specs.declared.derivations.Step.{Step}
use Rattle.cnf.specs.declared.derivations.Step.TheVariants.{Add, Drop}
use Rattle.cnf.specs.Derived.{IsAccepted}
use Rattle.cnf.specs.Fresh.{added_by}
use Rattle.cnf.specs.Trimmed.{is_cited_in, is_trimmed}
use Rattle.lrat_check.specs.Trim.{trimmed}

-- the trimmed derivation of an accepted one has the form of a trimmed one
abbrev pub IsTrimRight : Type 0
IsTrimRight = (clauses : List Clause) (lines : List Line) → IsAccepted clauses lines → IsTrue (is_trimmed clauses (trimmed clauses lines))

-- what holds of each added clause of a derivation
abbrev pub is_each_added : (Clause → Bool) → Step → Bool
is_each_added test (Add id clause hints) = test clause
is_each_added test (Drop ids) = true

-- what each added clause passes, each clause of the trimmed derivation passes: so it has no new variable
abbrev pub HasNoNewClause : Type 0
HasNoNewClause = (test : Clause → Bool) (clauses : List Clause) (lines : List Line) → IsTrue (list_all (λ l. is_each_added test l.step) lines) → IsTrue (list_all (λ l. is_each_added test l.step) (trimmed clauses lines))

-- no line of a trimmed derivation adds a clause with a complementary pair
abbrev pub HasNoPairs : Type 0
HasNoPairs = (clauses : List Clause) (lines : List Line) → IsTrue (is_trimmed clauses lines) → IsTrue (list_all (λ l. not (is_tautology (added_by l.step))) lines)

-- an input clause that the trimmed derivation cites is cited by the given one
abbrev pub CitesNoNewInput : Type 0
CitesNoNewInput = (clauses : List Clause) (lines : List Line) (id : ℕ) → id ≤ length clauses → IsTrue (is_cited_in (trimmed clauses lines) id) → IsTrue (is_cited_in lines id)
