-- From the answer of a command to the promises of a call.
use Rattle.std.proofs.Common.{◌≡◌, ◌≢◌, ◌∙◌, sym, refl, subst, ℕ, ◌≤◌, inl, inr, true, List, [], Option, None, Some, Result, Ok, Err, arith}
use Rattle.std.specs.Prelude.{◌==◌, Contains}
use Rattle.std.specs.List.{list_any}
use Rattle.std.specs.Io.KnownBytes.{Keeps}
use Rattle.edge.specs.Shelf.{Files}
use Rattle.edge.specs.Faults.{Rose}
use Rattle.edge.specs.Told.{AppendsPrefix}
use Rattle.vocab.specs.declared.kinds.Kind.{Kind}
use Rattle.texts.proofs.PageLemmas.{keeps_same}
use Rattle.words.specs.Words.{Request, Decide, Check, Export, Proof, Lrat, Axioms, Sample, Adopt, Gain, Sharpen, request_of}
use Rattle.answers.specs.declared.runs.Run.{Run}
use Rattle.answers.specs.Runs.{IsBare, with_status}
use Rattle.answers.specs.Devices.{Devices}
use Rattle.answers.specs.Call.{IsCall, HasReadCause, files_of, statuses_of, touched_at}
use Rattle.answers.proofs.AmongLemmas.{found_among}
use Rattle.command_parts.specs.declared.answer.Answer.{Answer}
use Rattle.command_parts.specs.declared.answer.Answer.TheVariants.{Usage, Library}
use Rattle.command_parts.specs.declared.answer.Stop.{Stop}
use Rattle.command_parts.specs.declared.answer.Stop.TheVariants as stop
use Rattle.command_parts.specs.Answers.{run_of, answer_status, text_of}
use Rattle.command_parts.specs.Answered.{Answers}
use Rattle.command_parts.proofs.AnswerLemmas.{bare_answer}
use Rattle.command_parts.proofs.PairLemmas.{not_in_front}

-- ---- commands

cuts_short : (request : Option Request) → list_any (λ n. n == 6) (statuses_of request) ≡ true
cuts_short None = refl
cuts_short (Some (Check study report workers)) = refl
cuts_short (Some (Axioms kind)) = refl
cuts_short (Some (Decide study workers)) = refl
cuts_short (Some (Export study workers)) = refl
cuts_short (Some (Proof study workers)) = refl
cuts_short (Some (Lrat cnf proof)) = refl
cuts_short (Some (Sample number)) = refl
cuts_short (Some (Adopt study proof workers)) = refl
cuts_short (Some (Gain study report)) = refl
cuts_short (Some (Sharpen study workers)) = refl

-- the text of each command may be cut short
pub may_be_cut : (request : Option Request) → Contains (statuses_of request) 6
may_be_cut request = found_among (statuses_of request) 6 (cuts_short request)

module _ (request : Option Request) (told : Option Files) (left : Files) (faults : List ℕ → ℕ) where
  -- the library, for the words that ask for it
  pub library_answer : (kind : Kind) → request ≡ Some (Axioms kind) → Answers request told left left faults faults (Ok (Library kind))
  library_answer kind asked =
      subst (λ (r : Option Request). Answers r told left left faults faults (Ok (Library kind))) (sym asked)
      (bare_answer (Some (Axioms kind)) told left faults (Library kind) (omega arith) tt (found_among (statuses_of (Some (Axioms kind))) 0 refl) (λ files. (record { ends = refl; no_verdict = refl; no_logs = refl; no_sharp = refl }, refl)))

  -- the usage line, for words that are no command
  pub usage_answer : request ≡ None → Answers request told left left faults faults (Ok Usage)
  usage_answer asked =
      subst (λ (r : Option Request). Answers r told left left faults faults (Ok Usage)) (sym asked)
      (bare_answer None told left faults Usage (omega arith) tt (found_among (statuses_of None) 2 refl) (λ files. (record { ends = refl; no_verdict = refl; no_logs = refl; no_sharp = refl }, refl)))

-- what a command promises of its answer is promised of the words that are that command
pub asked_answer : (request asked : Option Request) (told : Option Files) (left_before left_now : Files) (faults_before faults_now : List ℕ → ℕ) (result : Result Answer Stop)
    → asked ≡ request → Answers asked told left_before left_now faults_before faults_now result
    → Answers request told left_before left_now faults_before faults_now result
asked_answer request asked told left_before left_now faults_before faults_now result e a =
    subst (λ (r : Option Request). Answers r told left_before left_now faults_before faults_now result) e a

-- ---- calls

module _ (words : List (List ℕ)) (d : Devices) where
  abbrev Promised : Result Answer Stop → Type 0
  Promised result = Answers (request_of words) d.told d.left_before d.left_now d.faults_before d.faults_now result

  -- the front of it was
  pub cut : (answer : Answer) → Promised (Ok answer) → AppendsPrefix d.taken_before d.taken_now (text_of answer) → Rose d.sink_faults_before d.sink_faults_now
      → IsCall words d (with_status 6 (run_of answer))
  cut answer a bytes rose = record {
    status = may_be_cut (request_of words);
    lawful = λ files h low. absurd (omega (arith, low));
    cut_short = λ files h six. record { status = answer_status answer; text = text_of answer; lawful = a.lawful files h; written = bytes; untouched = a.untouched };
    silent = λ e. elim e [ inl five ↦ absurd (omega (arith, five)) | inr seven ↦ absurd (omega (arith, seven)) ];
    read_fault = λ five. absurd (omega (arith, five));
    write_fault = λ six. rose;
    untouched = λ name free. a.untouched name (not_in_front name (answer_status answer) (files_of (request_of words)) free);
    uncounted = a.uncounted;
  }

  -- nothing was
  silent_call : (run : Run) (s : ℕ) → IsBare run s → 5 ≤ s → s ≢ 6 → d.taken_now ≡ d.taken_before → Contains (statuses_of (request_of words)) s
      → (s ≡ 5 → HasReadCause (request_of words) d.told d.left_before d.left_now d.faults_before d.faults_now (files_of (request_of words)))
      → ((name : List ℕ) → ¬ Contains (touched_at s (files_of (request_of words))) name → d.left_now name ≡ d.left_before name)
      → (files_of (request_of words) ≡ [] → (name : List ℕ) → d.faults_now name ≡ d.faults_before name) → IsCall words d run
  silent_call run s bare high other same one cause untouched uncounted = record {
    status = subst (λ (n : ℕ). Contains (statuses_of (request_of words)) n) (sym bare.ends) one;
    lawful = λ files h low. let e = bare.ends in absurd (omega (arith, low, e, high));
    cut_short = λ files h six. absurd (other (sym bare.ends ∙ six));
    silent = λ e. record { kept = subst (λ (o : Option (List ℕ)). Keeps d.taken_before o) (sym same) (keeps_same d.taken_before); no_verdict = bare.no_verdict; no_logs = bare.no_logs; no_sharp = bare.no_sharp };
    read_fault = λ five. cause (sym bare.ends ∙ five);
    write_fault = λ six. absurd (other (sym bare.ends ∙ six));
    untouched = λ name free. untouched name (subst (λ (n : ℕ). ¬ Contains (touched_at n (files_of (request_of words))) name) bare.ends free);
    uncounted = uncounted;
  }

  -- a file could not be read
  pub unread : (run : Run) → IsBare run 5 → d.taken_now ≡ d.taken_before → Promised (Err stop.ReadFault) → IsCall words d run
  unread run bare same a = silent_call run 5 bare (omega arith) (λ e. absurd (omega (arith, e))) same a.status (λ e. a.read_fault refl) a.untouched a.uncounted
