-- Where a search for all rules stands.
use Rattle.std.specs.Prelude.{◌≡◌, ℕ, zero, suc, ◌+◌, Bool, not, List, [], ◌∷◌, ◌++◌, length, Option, Some, None, IsTrue}
use Rattle.std.specs.List.{list_all, AllByRecursion}
use Rattle.vocab.specs.Study.{Question}
use Rattle.cnf.specs.Fresh.{is_over}
use Rattle.cnf.specs.Sat.{Clause}
use Rattle.meaning.specs.Variables.{variable_count}
use Rattle.rule_lists.specs.declared.answers.Ending.{Ending}
use Rattle.rule_lists.specs.RuleLists.{has_table, are_tables_rising, IsRuleOf, LeaveOut, clauses_with, EndsWith}

-- the clause that is false under these truth values of so many variables, and under no others
abbrev pub denial : (ℕ → Bool) → ℕ → Clause
denial v zero = []
denial v (suc i) = denial v i ++ record { variable = i + 1; positive = not (v (i + 1)) } ∷ []

-- what was found: rules in order, and the clauses of all axioms with one for each of them that leaves it out, in the order in which they were found
pub record AreFoundRules (study : Question) (tables : List (List ℕ)) (clauses : List Clause) : Type 0 where
  pub right : AllByRecursion (IsRuleOf study) tables
  pub rising : IsTrue (are_tables_rising tables)
  pub found : List (List ℕ)
  pub same : (table : List ℕ) → has_table found table ≡ has_table tables table
  pub found_right : AllByRecursion (IsRuleOf study) found
  pub left_out : List Clause
  pub each : LeaveOut study found left_out
  pub is : clauses ≡ clauses_with study left_out
  pub over : IsTrue (list_all (is_over (variable_count study.size)) clauses)

-- a table was put among others
pub record PutsTable (old new : List (List ℕ)) (table : List ℕ) : Type 0 where
  pub before : List (List ℕ)
  pub after : List (List ℕ)
  pub old_is : old ≡ before ++ after
  pub new_is : new ≡ before ++ table ∷ after

-- after a search: one rule more was found; or the list ends so, as it stands
abbrev pub IsAfter : Question → (old new : List (List ℕ)) → List Clause → Option Ending → Type 0
IsAfter study old new clauses None = AreFoundRules study new clauses × (length new ≡ length old + 1)
IsAfter study old new clauses (Some ending) = (new ≡ old) × ((most : ℕ) → EndsWith study most new ending)
