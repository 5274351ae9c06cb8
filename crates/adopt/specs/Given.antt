-- The proofs that are given, to be adopted.
use Rattle.std.specs.Prelude.{◌≡◌, ◌<◌, ◌-◌, ◌^◌, List, length, IsTrue}
use Rattle.std.specs.List.{list_all}
use Rattle.vocab.specs.Study.{Question}
use Rattle.cnf.specs.declared.derivations.Line.{Line}
use Rattle.cnf.specs.Derived.{IsAccepted}
use Rattle.cnf.specs.Fresh.{AreOver}
use Rattle.lrat_check.specs.Ranges.{has_next}
use Rattle.meaning.specs.StudyClauses.{Sourced, study_clauses, clauses_for}
use Rattle.meaning.specs.Variables.{variable_count}
use Rattle.search_logs.specs.Spent.{all_places}

-- a proof is one over the clauses of all axioms of a study: the clauses are theirs, and the proof has no variable above those of the study, a number after that of each line, and fewer than 2^32 - 1 lines
pub record IsProofOverAll (study : Question) (sources : List Sourced) (proof : List Line) : Type 0 where
  pub clauses : sources ≡ study_clauses study.size study.axioms (all_places study)
  pub over : AreOver (variable_count study.size) proof
  pub numbers : IsTrue (list_all has_next proof)
  pub few : length proof < 2 ^ 32 - 1

-- a given proof is accepted
pub record IsAcceptedProof (study : Question) (sources : List Sourced) (proof : List Line) : Type 0 where
  pub given : IsProofOverAll study sources proof
  pub accepted : IsAccepted (clauses_for study.size study.axioms (all_places study)) proof
