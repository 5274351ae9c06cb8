-- Searches that spent their limit, and what they are evidence of.
use Rattle.std.specs.Prelude.{◌≡◌, ℕ, Bool, ◌||◌, ◌==◌, List, [], ◌∷◌, length, Any, IsTrue, IsFalse}
use Rattle.std.specs.List.{list_all, list_any, AllByRecursion}
use Rattle.vocab.specs.Study.{Question}
use Rattle.cnf.specs.Fresh.{IsSpent}
use Rattle.meaning.specs.declared.cores.Witness.{Witness}
use Rattle.meaning.specs.declared.cores.Witness.TheVariants.{Rule, Open}
use Rattle.meaning.specs.Cores.{is_core_from}
use Rattle.meaning.specs.StudyClauses.{clauses_for}
use Rattle.meaning.specs.Space.{below}
use Rattle.meaning.specs.Variables.{variable_count}
use Rattle.search_logs.specs.declared.logs.SearchLog.{SearchLog}

-- a number stands in a list of places
abbrev pub has_place : List ℕ → ℕ → Bool
has_place places k = list_any (λ c. c == k) places

-- all axioms of a study, by place
abbrev pub all_places : Question → List ℕ
all_places study = below (length study.axioms)

module _ (study : Question) where
  -- a search over the clauses of the chosen axioms spent its limit: it learned as many clauses as the study allows, each of which follows and is fresh
  pub record IsSpentLog (log : SearchLog) : Type 0 where
    pub chosen : IsTrue (is_core_from 0 (length study.axioms) log.chosen)
    pub spent : IsSpent (variable_count study.size) (clauses_for study.size study.axioms log.chosen) study.conflicts log.lines

  -- a log is of a search over all axioms
  abbrev pub IsOfAll : SearchLog → Type 0
  IsOfAll log = log.chosen ≡ all_places study

  -- a log is of a search without an axiom of a core: what it chose lacks that axiom and has the rest of the core
  pub record IsWithout (core : List ℕ) (k : ℕ) (log : SearchLog) : Type 0 where
    pub lacks : IsFalse (has_place log.chosen k)
    pub has_rest : IsTrue (list_all (λ c. c == k || has_place log.chosen c) core)

  -- the witness of an axiom of a core has its evidence: where it is an open mark, a search without that axiom spent its limit
  abbrev pub HasEvidence : List SearchLog → List ℕ → ℕ → Witness → Type 0
  HasEvidence logs core k (Rule table) = Unit {0}
  HasEvidence logs core k (Open limit) = Any (IsWithout core k) logs

  -- each axiom of the front of a core has its evidence
  abbrev pub HaveEvidence : List SearchLog → List ℕ → List ℕ → List Witness → Type 0
  HaveEvidence logs core [] witnesses = Unit {0}
  HaveEvidence logs core (k ∷ ks) [] = Unit {0}
  HaveEvidence logs core (k ∷ ks) (w ∷ witnesses) = HasEvidence logs core k w × HaveEvidence logs core ks witnesses

  -- each of the logs is of a search that spent its limit
  abbrev pub AreSpentLogs : List SearchLog → Type 0
  AreSpentLogs logs = AllByRecursion IsSpentLog logs
