-- What each command promises of its answer, at its simplest.
use Rattle.std.proofs.Common.{◌≡◌, refl, ℕ, ◌≤◌, true, List, Option, None, Some, Ok, Err}
use Rattle.std.specs.Prelude.{◌==◌, Contains}
use Rattle.std.specs.List.{list_any}
use Rattle.edge.specs.Shelf.{Files}
use Rattle.words.specs.Words.{Request, Decide, Check, Export, Proof, Lrat, Axioms, Sample, Adopt, Gain, Sharpen}
use Rattle.answers.specs.Lawful.{IsBenchAnswer}
use Rattle.answers.specs.Call.{statuses_of}
use Rattle.answers.proofs.AmongLemmas.{found_among}
use Rattle.command_parts.specs.declared.answer.Answer.{Answer}
use Rattle.command_parts.specs.declared.answer.Stop.TheVariants as stop
use Rattle.command_parts.specs.Answers.{HasText, run_of, answer_status, text_of}
use Rattle.command_parts.specs.Answered.{Answers}

-- ---- commands

wants_memory : (request : Option Request) → list_any (λ n. n == 7) (statuses_of request) ≡ true
wants_memory None = refl
wants_memory (Some (Check study report workers)) = refl
wants_memory (Some (Axioms kind)) = refl
wants_memory (Some (Decide study workers)) = refl
wants_memory (Some (Export study workers)) = refl
wants_memory (Some (Proof study workers)) = refl
wants_memory (Some (Lrat cnf proof)) = refl
wants_memory (Some (Sample number)) = refl
wants_memory (Some (Adopt study proof workers)) = refl
wants_memory (Some (Gain study report)) = refl
wants_memory (Some (Sharpen study workers)) = refl

-- each command may want memory
pub may_want_memory : (request : Option Request) → Contains (statuses_of request) 7
may_want_memory request = found_among (statuses_of request) 7 (wants_memory request)

module _ (request : Option Request) (told : Option Files) (left : Files) (faults : List ℕ → ℕ) where
  -- want of memory, where the shelf is as it was
  pub no_memory : Answers request told left left faults faults (Err stop.NoMemory)
  no_memory = record {
    lawful = λ files h. tt;
    status = may_want_memory request;
    low = tt;
    has_text = tt;
    read_fault = λ e. absurd (cc);
    untouched = λ name free. refl;
    uncounted = λ none name. refl;
  }

  -- an answer that read no file
  pub bare_answer : (answer : Answer) → answer_status answer ≤ 4 → HasText answer → Contains (statuses_of request) (answer_status answer)
      → ((files : Files) → IsBenchAnswer request files (run_of answer) (text_of answer)) → Answers request told left left faults faults (Ok answer)
  bare_answer answer low has_text one lawful = record {
    lawful = λ files h. lawful files;
    status = one;
    low = low;
    has_text = has_text;
    read_fault = λ e. absurd (cc);
    untouched = λ name free. refl;
    uncounted = λ none name. refl;
  }
