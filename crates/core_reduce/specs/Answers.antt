-- What a decision says.
use Rattle.std.specs.Prelude.{◌≡◌, ℕ, ◌<◌, ◌-◌, ◌^◌, Bool, ◌||◌, ◌==◌, List, [], ◌∷◌, length, Any, IsTrue, IsFalse}
use Rattle.std.specs.List.{list_all}
use Rattle.vocab.specs.Study.{Question}
use Rattle.cnf.specs.declared.derivations.Line.{Line}
use Rattle.cnf.specs.Fresh.{AreOver}
use Rattle.cnf.specs.Derived.{IsAccepted}
use Rattle.cnf.specs.Trimmed.{is_trimmed}
use Rattle.meaning.specs.Cores.{is_core_right}
use Rattle.meaning.specs.StudyClauses.{study_clauses, clauses_for}
use Rattle.meaning.specs.Truth.{satisfies}
use Rattle.meaning.specs.Variables.{variable_count}
use Rattle.core_reduce.specs.declared.answers.Decision.{Decision}
use Rattle.core_reduce.specs.declared.answers.Finding.{Finding}
use Rattle.core_reduce.specs.declared.answers.Finding.TheVariants.{Possible, Impossible, Undecided}
use Rattle.core_reduce.specs.declared.answers.Reduced.{Reduced}
use Rattle.core_reduce.specs.declared.answers.Refutation.{Refutation}
use Rattle.search_logs.specs.declared.logs.SearchLog.{SearchLog}
use Rattle.search_logs.specs.Spent.{has_place, all_places, IsOfAll, HaveEvidence, AreSpentLogs}
use Rattle.clause_form.specs.Cited.{is_axiom_cited}

module _ (study : Question) where
  -- a refutation is right: its core is right; its clauses are those of the core, its proof is trimmed and accepted over them, has no variable above those of the study, and fewer than 2^32 - 1 lines; no rule satisfies the core; and each open mark has its log
  pub record IsRefutation (logs : List SearchLog) (r : Refutation) : Type 0 where
    pub core : IsTrue (is_core_right study.size study.axioms study.conflicts r.core r.witnesses)
    pub clauses : r.clauses ≡ study_clauses study.size study.axioms r.core
    pub trimmed : IsTrue (is_trimmed (clauses_for study.size study.axioms r.core) r.proof)
    pub accepted : IsAccepted (clauses_for study.size study.axioms r.core) r.proof
    pub over : AreOver (variable_count study.size) r.proof
    pub few : length r.proof < 2 ^ 32 - 1
    pub no_rule : (table : List ℕ) → ¬ IsTrue (satisfies study.size study.axioms r.core table)
    pub logged : HaveEvidence study logs r.core r.core r.witnesses

  -- a finding is right: a rule that satisfies all axioms; a right refutation; or nothing, where a search over all axioms spent its limit
  abbrev pub IsFinding : List SearchLog → Finding → Type 0
  IsFinding logs (Possible table) = IsTrue (satisfies study.size study.axioms (all_places study) table)
  IsFinding logs (Impossible r) = IsRefutation logs r
  IsFinding logs Undecided = Any (IsOfAll study) logs

  -- a decision is right: its finding is, and each of its logs is of a search that spent its limit
  pub record IsDecision (decision : Decision) : Type 0 where
    pub finding : IsFinding decision.logs decision.finding
    pub logs : AreSpentLogs study decision.logs

  -- ---- the core of a given proof

  -- a reduced proof is right: its refutation is; each axiom of its core is one of the chosen, and a hint of the given proof names a clause of it; and its logs are of searches that spent their limit
  pub record IsReduced (chosen : List ℕ) (given : List Line) (r : Reduced) : Type 0 where
    pub refutation : IsRefutation r.logs r.refutation
    pub logs : AreSpentLogs study r.logs
    pub from_chosen : IsTrue (list_all (has_place chosen) r.refutation.core)
    pub cited : IsTrue (list_all (is_axiom_cited (study_clauses study.size study.axioms chosen) given) r.refutation.core)
