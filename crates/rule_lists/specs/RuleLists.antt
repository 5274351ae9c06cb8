-- All rules that satisfy the axioms of a study.
use Rattle.std.specs.Prelude.{◌≡◌, ℕ, ◌≤◌, nat_lt, ◌==◌, Bool, true, false, ◌&&◌, ◌||◌, List, [], ◌∷◌, ◌++◌, length, IsTrue, IsFalse, ◌⊎◌}
use Rattle.std.specs.List.{list_all, list_any, AllByRecursion}
use Rattle.std.specs.Str.{bytes_eq}
use Rattle.vocab.specs.Study.{Question}
use Rattle.cnf.specs.ClauseList.{ClauseList, IsFullFor}
use Rattle.cnf.specs.Fresh.{IsSpent}
use Rattle.cnf.specs.Sat.{Clause, is_clause_true}
use Rattle.cnf.specs.declared.derivations.Line.{Line}
use Rattle.meaning.specs.StudyClauses.{clauses_for}
use Rattle.meaning.specs.Laws.{AreBitsOf}
use Rattle.meaning.specs.Truth.{satisfies}
use Rattle.meaning.specs.Variables.{variable_count}
use Rattle.search_logs.specs.Spent.{all_places}
use Rattle.rule_lists.specs.declared.answers.Ending.{Ending}
use Rattle.rule_lists.specs.declared.answers.Ending.TheVariants.{Whole, More, Open}
use Rattle.rule_lists.specs.declared.answers.RuleList.{RuleList}

-- ---- tables

-- a table is one of some
abbrev pub has_table : List (List ℕ) → List ℕ → Bool
has_table tables table = list_any (bytes_eq table) tables

-- a table comes before another in lexicographic order
abbrev pub is_table_before : List ℕ → List ℕ → Bool
is_table_before [] [] = false
is_table_before [] (o ∷ os) = true
is_table_before (o ∷ os) [] = false
is_table_before (o ∷ os) (u ∷ us) = nat_lt o u || (o == u && is_table_before os us)

-- each table comes before all later ones; so no two are the same
abbrev pub are_tables_rising : List (List ℕ) → Bool
are_tables_rising [] = true
are_tables_rising (table ∷ tables) = list_all (is_table_before table) tables && are_tables_rising tables

module _ (study : Question) where
  -- a rule of the study's size satisfies all its axioms
  abbrev pub IsRuleOf : List ℕ → Type 0
  IsRuleOf table = IsTrue (satisfies study.size study.axioms (all_places study) table)

  -- ---- rules that are left out

  -- a clause leaves out a rule: it is false under the bits of the rule, and under no other
  pub record LeavesOut (table : List ℕ) (clause : Clause) : Type 0 where
    pub itself : (v : ℕ → Bool) → AreBitsOf study.size table v → IsFalse (is_clause_true v clause)
    pub alone : (v : ℕ → Bool) → IsFalse (is_clause_true v clause) → AreBitsOf study.size table v

  -- each of some clauses leaves out the rule that stands at its place
  abbrev pub LeaveOut : List (List ℕ) → List Clause → Type 0
  LeaveOut [] [] = Unit {0}
  LeaveOut (table ∷ tables) (clause ∷ clauses) = LeavesOut table clause × LeaveOut tables clauses
  LeaveOut _ _ = ⊥

  -- the clauses of all axioms, and others
  abbrev pub clauses_with : List Clause → List Clause
  clauses_with others = clauses_for study.size study.axioms (all_places study) ++ others

  -- a search over some clauses spent the study's limit
  abbrev pub IsSpentOver : List Clause → Type 0
  IsSpentOver clauses = (lines : List Line) × IsSpent (variable_count study.size) clauses study.conflicts lines

  -- a clause of all variables passes a limit of the list that has these clauses
  abbrev pub IsFullOver : List Clause → Type 0
  IsFullOver clauses = (list : ClauseList) × (list.clauses ≡ clauses) × IsFullFor list (variable_count study.size)

  -- over the clauses of all axioms, and one for each of these rules that leaves it out, in some order, a search spent the limit, or no clause has room
  pub record IsListCutShort (tables : List (List ℕ)) : Type 0 where
    pub found : List (List ℕ)
    pub same : (table : List ℕ) → has_table found table ≡ has_table tables table
    pub left_out : List Clause
    pub each : LeaveOut found left_out
    pub cause : IsSpentOver (clauses_with left_out) ⊎ IsFullOver (clauses_with left_out)

  -- ---- the list

  -- some rule is none of these
  pub record IsOtherRule (tables : List (List ℕ)) (table : List ℕ) : Type 0 where
    pub right : IsRuleOf table
    pub other : IsFalse (has_table tables table)

  -- how a list of rules ends: these are all; or they are as many as were asked for, and there is another; or the search was cut short
  abbrev pub EndsWith : (most : ℕ) → List (List ℕ) → Ending → Type 0
  EndsWith most tables Whole = (table : List ℕ) → IsRuleOf table → IsTrue (has_table tables table)
  EndsWith most tables More = (length tables ≡ most) × (table : List ℕ) × IsOtherRule tables table
  EndsWith most tables Open = IsListCutShort tables

  -- a list of rules is right: each satisfies all axioms, no two are the same, they stand in lexicographic order, there are at most as many as were asked for, and they end so
  pub record IsRuleList (most : ℕ) (list : RuleList) : Type 0 where
    pub right : AllByRecursion IsRuleOf list.tables
    pub rising : IsTrue (are_tables_rising list.tables)
    pub few : length list.tables ≤ most
    pub ends : EndsWith most list.tables list.ending
