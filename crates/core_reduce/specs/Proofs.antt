-- What a search over the clauses of all axioms says.
use Rattle.std.specs.Prelude.{List, Any, IsTrue}
use Rattle.vocab.specs.Study.{Question}
use Rattle.cnf.specs.Fresh.{AreOver}
use Rattle.cnf.specs.Trimmed.{is_trimmed}
use Rattle.meaning.specs.StudyClauses.{clauses_for}
use Rattle.meaning.specs.Truth.{satisfies}
use Rattle.meaning.specs.Variables.{variable_count}
use Rattle.search_logs.specs.declared.logs.SearchLog.{SearchLog}
use Rattle.search_logs.specs.Spent.{all_places, IsOfAll, AreSpentLogs}
use Rattle.core_reduce.specs.declared.answers.Shown.{Shown}
use Rattle.core_reduce.specs.declared.answers.Shown.TheVariants.{Possible, Refuted, Undecided}
use Rattle.core_reduce.specs.declared.answers.Proved.{Proved}

module _ (study : Question) where
  -- a rule that satisfies all axioms; a trimmed, and so accepted, refutation of their clauses, without a variable above those of the study; or nothing, where a search over all axioms spent its limit
  abbrev pub IsShown : List SearchLog → Shown → Type 0
  IsShown logs (Possible table) = IsTrue (satisfies study.size study.axioms (all_places study) table)
  IsShown logs (Refuted lines) =
      IsTrue (is_trimmed (clauses_for study.size study.axioms (all_places study)) lines) × AreOver (variable_count study.size) lines
  IsShown logs Undecided = Any (IsOfAll study) logs

  -- what was found is right, and each log is of a search that spent its limit
  pub record IsProvedRight (p : Proved) : Type 0 where
    pub shown : IsShown p.logs p.shown
    pub logs : AreSpentLogs study p.logs
