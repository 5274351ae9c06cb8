-- The proofs that are told.
use Rattle.std.specs.Prelude.{◌≡◌, ℕ, ◌<◌, ◌-◌, ◌^◌, List, length, IsTrue}
use Rattle.vocab.specs.Study.{Question}
use Rattle.cnf.specs.declared.derivations.Line.{Line}
use Rattle.cnf.specs.Fresh.{AreOver}
use Rattle.cnf.specs.Trimmed.{is_trimmed}
use Rattle.meaning.specs.StudyClauses.{Sourced, study_clauses, clauses_for}
use Rattle.meaning.specs.Variables.{variable_count}

-- a proof is trimmed over the clauses of chosen axioms of a study: the clauses are theirs, and the proof has no variable above those of the study, and fewer than 2^32 - 1 lines
pub record IsTrimmedProof (study : Question) (chosen : List ℕ) (sources : List Sourced) (proof : List Line) : Type 0 where
  pub clauses : sources ≡ study_clauses study.size study.axioms chosen
  pub trimmed : IsTrue (is_trimmed (clauses_for study.size study.axioms chosen) proof)
  pub over : AreOver (variable_count study.size) proof
  pub few : length proof < 2 ^ 32 - 1
