-- The clauses of a file, as they were read, and what is said of a derivation from them.
use Rattle.std.specs.Prelude.{◌≡◌, ℕ, ◌≤◌, List, length, Option, Some, Ok}
use Rattle.edge.specs.Shelf.{Files}
use Rattle.clause_text.specs.declared.cnf_reading.Formulas.{Formulas}
use Rattle.clause_text.specs.ReadDimacs.{Formula, read_dimacs}
use Rattle.answers.specs.FileLimits.{most_cnf_bytes}
use Rattle.answers.specs.Lrat.{RefusesFormula, Said}
use Rattle.answers.specs.Runs.{IsBare}
use Rattle.command_parts.specs.declared.answer.Answer.{Answer}
use Rattle.check_commands.specs.declared.lrat.Given.{Given}
use Rattle.check_commands.specs.declared.lrat.Given.TheVariants as given
use Rattle.command_parts.specs.Answers.{HasText, run_of, text_of}

-- the clauses without their origins
abbrev pub without_origins : Formulas → Formula
without_origins f = record { variables = f.variables; clauses = f.clauses.clauses }

-- bytes within the limit give the clauses; where the shelf tells its files, they are those of this name
pub record IsCnf (told : Option Files) (name : List ℕ) (formula : Formula) : Type 0 where
  pub bytes : List ℕ
  pub fits : length bytes ≤ most_cnf_bytes
  pub gives : read_dimacs bytes ≡ Ok formula
  pub few : formula.variables ≤ 10000000
  pub held : (files : Files) → told ≡ Some files → files name ≡ Some bytes

-- the answer refuses the clauses with status 3, and by their line where the shelf tells its files
pub record RefusesCnf (told : Option Files) (name : List ℕ) (answer : Answer) : Type 0 where
  pub bare : IsBare (run_of answer) 3
  pub has_text : HasText answer
  pub line : (files : Files) → told ≡ Some files → RefusesFormula files name (text_of answer)

-- clauses were read, or they are refused
abbrev pub IsGiven : Option Files → List ℕ → Given → Type 0
IsGiven told name (given.Clauses formulas) = IsCnf told name (without_origins formulas)
IsGiven told name (given.Refused answer) = RefusesCnf told name answer

-- the text is this one, with this status and without a search
pub record AnswerSays (answer : Answer) (said : Said) : Type 0 where
  pub ends : IsBare (run_of answer) said.status
  pub is : text_of answer ≡ said.text
