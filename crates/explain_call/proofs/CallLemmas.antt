-- From the reply of a command to the promises of a call.
use Rattle.std.proofs.Common.{◌≡◌, ◌≢◌, sym, refl, subst, ℕ, ◌≤◌, inl, inr, true, List, [], Option, None, Some, Result, Ok, Err, arith}
use Rattle.std.specs.Prelude.{◌==◌, Contains}
use Rattle.std.specs.List.{list_any}
use Rattle.std.specs.Io.KnownBytes.{Appends, Keeps}
use Rattle.edge.specs.Shelf.{Files}
use Rattle.edge.specs.Faults.{Rose}
use Rattle.edge.specs.Told.{AppendsPrefix}
use Rattle.texts.proofs.PageLemmas.{keeps_same}
use Rattle.answers.specs.Call.{touched_at}
use Rattle.answers.specs.Devices.{Devices}
use Rattle.answers.proofs.AmongLemmas.{found_among}
use Rattle.command_parts.specs.declared.answer.Stop.{Stop}
use Rattle.command_parts.specs.declared.answer.Stop.TheVariants as stop
use Rattle.command_parts.proofs.PairLemmas.{not_in_front}
use Rattle.explain_words.specs.Words.{ExplainRequest, Story, Instance, Rules, Cores, Look, request_of}
use Rattle.explain_answers.specs.Call.{IsExplainCall, HasCauseAtFile, explain_files, explain_statuses}
use Rattle.explain_parts.specs.declared.reply.Reply.{Reply}
use Rattle.explain_parts.specs.declared.reply.Reply.TheVariants as reply
use Rattle.explain_parts.specs.Replies.{Replies, status_of, reply_text}
use Rattle.explain_parts.proofs.StudyReplies.{may_want_memory}

-- ---- commands

cuts_short : (request : Option ExplainRequest) → list_any (λ n. n == 6) (explain_statuses request) ≡ true
cuts_short None = refl
cuts_short (Some (Story study report workers)) = refl
cuts_short (Some (Instance study axiom_name number)) = refl
cuts_short (Some (Rules study most workers)) = refl
cuts_short (Some (Cores study workers)) = refl
cuts_short (Some (Look study workers)) = refl

-- the text of each command may be cut short
may_be_cut : (request : Option ExplainRequest) → Contains (explain_statuses request) 6
may_be_cut request = found_among (explain_statuses request) 6 (cuts_short request)

module _ (request : Option ExplainRequest) (told : Option Files) (left : Files) (faults : List ℕ → ℕ) where
  -- the usage line, for words that are no command
  pub usage_reply : request ≡ None → Replies request told left left faults faults (Ok reply.Usage)
  usage_reply asked = subst (λ (r : Option ExplainRequest). Replies r told left left faults faults (Ok reply.Usage)) (sym asked) (record {
    lawful = λ files h. (refl, refl);
    known = found_among (explain_statuses None) 2 refl;
    low = omega arith;
    has_text = tt;
    read_fault = λ e. absurd (cc);
    untouched = λ name free. refl;
    uncounted = λ none name. refl;
  })

  -- want of memory, where the shelf is as it was
  pub no_memory : Replies request told left left faults faults (Err stop.NoMemory)
  no_memory = record {
    lawful = λ files h. tt;
    known = may_want_memory request;
    low = tt;
    has_text = tt;
    read_fault = λ e. absurd (cc);
    untouched = λ name free. refl;
    uncounted = λ none name. refl;
  }

-- what a command promises of its reply is promised of the words that are that command
pub asked_reply : (request asked : Option ExplainRequest) (told : Option Files) (left_before left_now : Files) (faults_before faults_now : List ℕ → ℕ) (result : Result Reply Stop)
    → asked ≡ request → Replies asked told left_before left_now faults_before faults_now result
    → Replies request told left_before left_now faults_before faults_now result
asked_reply request asked told left_before left_now faults_before faults_now result e a =
    subst (λ (r : Option ExplainRequest). Replies r told left_before left_now faults_before faults_now result) e a

-- ---- calls

module _ (words : List (List ℕ)) (d : Devices) where
  abbrev Promised : Result Reply Stop → Type 0
  Promised result = Replies (request_of words) d.told d.left_before d.left_now d.faults_before d.faults_now result

  -- the text was written
  pub written : (r : Reply) → Promised (Ok r) → Appends d.taken_before d.taken_now (reply_text r) → IsExplainCall words d (status_of r)
  written r a bytes = record {
    known = a.known;
    lawful = λ files h low. record { text = reply_text r; lawful = a.lawful files h; written = bytes };
    cut_short = λ files h six. absurd (omega (arith, six, a.low));
    silent = λ e. elim e [ inl five ↦ absurd (omega (arith, five, a.low)) | inr seven ↦ absurd (omega (arith, seven, a.low)) ];
    read_fault = λ five. absurd (omega (arith, five, a.low));
    write_fault = λ six. absurd (omega (arith, six, a.low));
    untouched = a.untouched;
    uncounted = a.uncounted;
  }

  -- the front of it was
  pub cut : (r : Reply) → Promised (Ok r) → AppendsPrefix d.taken_before d.taken_now (reply_text r) → Rose d.sink_faults_before d.sink_faults_now → IsExplainCall words d 6
  cut r a bytes rose = record {
    known = may_be_cut (request_of words);
    lawful = λ files h low. absurd (omega (arith, low));
    cut_short = λ files h six. record { status = status_of r; text = reply_text r; lawful = a.lawful files h; written = bytes; untouched = a.untouched };
    silent = λ e. elim e [ inl five ↦ absurd (omega (arith, five)) | inr seven ↦ absurd (omega (arith, seven)) ];
    read_fault = λ five. absurd (omega (arith, five));
    write_fault = λ six. rose;
    untouched = λ name free. a.untouched name (not_in_front name (status_of r) (explain_files (request_of words)) free);
    uncounted = a.uncounted;
  }

  -- nothing was
  silent_call : (s : ℕ) → 5 ≤ s → s ≢ 6 → d.taken_now ≡ d.taken_before → Contains (explain_statuses (request_of words)) s
      → (s ≡ 5 → HasCauseAtFile d.told d.left_before d.left_now d.faults_before d.faults_now (explain_files (request_of words)))
      → ((name : List ℕ) → ¬ Contains (touched_at s (explain_files (request_of words))) name → d.left_now name ≡ d.left_before name)
      → (explain_files (request_of words) ≡ [] → (name : List ℕ) → d.faults_now name ≡ d.faults_before name) → IsExplainCall words d s
  silent_call s high other same one cause untouched uncounted = record {
    known = one;
    lawful = λ files h low. absurd (omega (arith, low, high));
    cut_short = λ files h six. absurd (other six);
    silent = λ e. subst (λ (o : Option (List ℕ)). Keeps d.taken_before o) (sym same) (keeps_same d.taken_before);
    read_fault = cause;
    write_fault = λ six. absurd (other six);
    untouched = untouched;
    uncounted = uncounted;
  }

  -- a file could not be read
  pub unread : d.taken_now ≡ d.taken_before → Promised (Err stop.ReadFault) → IsExplainCall words d 5
  unread same a = silent_call 5 (omega arith) (λ e. absurd (omega (arith, e))) same a.known (λ e. a.read_fault refl) a.untouched a.uncounted
