-- What each command promises of its answer: the same clauses for all.
use Rattle.std.specs.Prelude.{◌≡◌, ℕ, ◌≤◌, List, [], Contains, Option, Result, Ok, Err, IfOk, IsErrOf}
use Rattle.edge.specs.Shelf.{Files}
use Rattle.words.specs.Words.{Request}
use Rattle.answers.specs.Lawful.{IsBenchAnswer}
use Rattle.answers.specs.Call.{AreFiles, AreUntouched, HasReadCause, files_of, statuses_of}
use Rattle.command_parts.specs.declared.answer.Answer.{Answer}
use Rattle.command_parts.specs.declared.answer.Stop.{Stop}
use Rattle.command_parts.specs.declared.answer.Stop.TheVariants as stop
use Rattle.command_parts.specs.Answers.{HasText, run_of, answer_status, text_of}

-- the status of a result
abbrev pub ended_with : Result Answer Stop → ℕ
ended_with (Ok answer) = answer_status answer
ended_with (Err stop.ReadFault) = 5
ended_with (Err stop.NoMemory) = 7

-- the answer is that of the table, with a status below 5 that the command has, and has a text; a fault has its cause;
-- what is left of other files stays, and where no file is read no count rose
pub record Answers (request : Option Request) (told : Option Files) (left_before left_now : Files)
    (faults_before faults_now : List ℕ → ℕ) (result : Result Answer Stop) : Type 0 where
  pub lawful : (files : Files) → AreFiles told (files_of request) files
      → IfOk result (λ answer. IsBenchAnswer request files (run_of answer) (text_of answer))
  pub status : Contains (statuses_of request) (ended_with result)
  pub low : IfOk result (λ answer. answer_status answer ≤ 4)
  pub has_text : IfOk result HasText
  pub read_fault : IsErrOf result stop.ReadFault
      → HasReadCause request told left_before left_now faults_before faults_now (files_of request)
  pub untouched : AreUntouched (ended_with result) (files_of request) left_before left_now
  pub uncounted : files_of request ≡ [] → (name : List ℕ) → faults_now name ≡ faults_before name
