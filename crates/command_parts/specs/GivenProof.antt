-- The derivation of the file of a proof, as it was read, and what is said of that file.
use Rattle.std.specs.Prelude.{◌≡◌, ℕ, ◌<◌, ◌≤◌, ◌-◌, ◌^◌, List, length, Option, Some, Ok, IsTrue}
use Rattle.std.specs.List.{list_all}
use Rattle.edge.specs.Shelf.{Files}
use Rattle.cnf.specs.declared.derivations.Line.{Line}
use Rattle.cnf.specs.Fresh.{AreOver}
use Rattle.cnf.specs.Sat.{Clause}
use Rattle.lrat_check.specs.Ranges.{has_next}
use Rattle.clause_text.specs.ReadDimacs.{Formula}
use Rattle.clause_text.specs.ReadLrat.{read_lrat}
use Rattle.answers.specs.declared.runs.Run.{Run}
use Rattle.answers.specs.FileLimits.{most_proof_bytes}
use Rattle.answers.specs.Lrat.{said_of}
use Rattle.answers.specs.Runs.{IsBare}
use Rattle.command_parts.specs.declared.answer.Answer.{Answer}
use Rattle.command_parts.specs.declared.derivations.GivenProof.{GivenProof}
use Rattle.command_parts.specs.declared.derivations.GivenProof.TheVariants as given
use Rattle.command_parts.specs.Answers.{HasText, run_of, text_of}

-- the file of a proof is judged over clauses, and the text is what is said of it
pub record IsProofSaid (files : Files) (proof : List ℕ) (formula : Formula) (run : Run) (text : List ℕ)
    : Type 0 where
  pub bytes : List ℕ
  pub held : files proof ≡ Some bytes
  pub ends : IsBare run (said_of formula bytes).status
  pub is : text ≡ (said_of formula bytes).text

-- bytes within the limit give the derivation, which is in range; where the shelf tells its files, they are those
-- of this name
pub record IsDerivation (told : Option Files) (name : List ℕ) (variables : ℕ) (lines : List Line)
    : Type 0 where
  pub bytes : List ℕ
  pub fits : length bytes ≤ most_proof_bytes
  pub gives : read_lrat variables bytes ≡ Ok lines
  pub held : (files : Files) → told ≡ Some files → files name ≡ Some bytes
  pub over : AreOver variables lines
  pub numbers : IsTrue (list_all has_next lines)
  pub few : length lines < 2 ^ 32 - 1

-- the answer refuses the proof with status 1, and as is said of it over any clauses where the shelf tells its files
pub record RefusesProof (told : Option Files) (name : List ℕ) (variables : ℕ) (answer : Answer)
    : Type 0 where
  pub bare : IsBare (run_of answer) 1
  pub has_text : HasText answer
  pub said : (files : Files) → told ≡ Some files → (clauses : List Clause)
      → IsProofSaid files name (record { variables = variables; clauses = clauses })
      (run_of answer) (text_of answer)

-- a derivation was read, or it is refused
abbrev pub IsGivenProof : Option Files → List ℕ → ℕ → GivenProof → Type 0
IsGivenProof told name variables (given.Lines lines) = IsDerivation told name variables lines
IsGivenProof told name variables (given.Refused answer) = RefusesProof told name variables answer
