-- Commands over the study of one file, from what each part promises to what the command does.
use Rattle.std.proofs.Common.{◌≡◌, ◌∙◌, sym, refl, subst, ℕ, ◌≤◌, true, List, [], ◌∷◌, Option, None, Some, Result, Ok, Err, IfOk, IsErrOf}
use Rattle.std.specs.Prelude.{◌==◌, ◌≢◌, Contains}
use Rattle.std.specs.List.{list_any}
use Rattle.edge.specs.Shelf.{Files, OthersStay}
use Rattle.edge.specs.Faults.{Rose}
use Rattle.vocab.specs.Study.{Question}
use Rattle.clause_form.specs.declared.refusals.GroundFault.{GroundFault}
use Rattle.clause_form.specs.declared.refusals.GroundFault.TheVariants.{NoMemory}
use Rattle.clause_form.specs.Refusals.{IsRefused}
use Rattle.answers.specs.Grounding.{clauses_fault, OverClauses, clauses_refused, clauses_made}
use Rattle.answers.specs.Studies.{OverStudy, study_refused, study_given}
use Rattle.answers.specs.Call.{AreFiles, are_told, none_read, touched_at}
use Rattle.answers.proofs.AmongLemmas.{found_among, not_first}
use Rattle.command_parts.specs.declared.answer.Answer.{Answer}
use Rattle.command_parts.specs.declared.answer.Answer.TheVariants.{NoClauses}
use Rattle.command_parts.specs.declared.answer.Stop.{Stop}
use Rattle.command_parts.specs.declared.answer.Stop.TheVariants as stop
use Rattle.command_parts.specs.declared.studies.Opened.{Opened}
use Rattle.command_parts.specs.Opened.{IsStudyRead, Refuses}
use Rattle.command_parts.proofs.OpenLemmas.{given}
use Rattle.command_parts.proofs.StudyLemmas.{touched_one}
use Rattle.explain_words.specs.Words.{ExplainRequest, Story, Instance, Rules, Cores, Look}
use Rattle.explain_answers.specs.Lawful.{IsExplanation}
use Rattle.explain_answers.specs.Story.{bare_run}
use Rattle.explain_answers.specs.Call.{at_study, explain_files, explain_statuses}
use Rattle.explain_parts.specs.declared.reply.Reply.{Reply}
use Rattle.explain_parts.specs.declared.reply.Reply.TheVariants as reply
use Rattle.explain_parts.specs.Replies.{HasReplyText, Replies, status_of, reply_text}
use Rattle.answers.proofs.RowLemmas.{refusal_is}

wants_memory : (request : Option ExplainRequest) → list_any (λ n. n == 7) (explain_statuses request) ≡ true
wants_memory None = refl
wants_memory (Some (Story study report workers)) = refl
wants_memory (Some (Instance study axiom_name number)) = refl
wants_memory (Some (Rules study most workers)) = refl
wants_memory (Some (Cores study workers)) = refl
wants_memory (Some (Look study workers)) = refl

-- each command may want memory
pub may_want_memory : (request : Option ExplainRequest) → Contains (explain_statuses request) 7
may_want_memory request = found_among (explain_statuses request) 7 (wants_memory request)

-- a status of a command that is below 5
abbrev pub IsLow : Option ExplainRequest → ℕ → Type 0
IsLow request s = Contains (explain_statuses request) s × (s ≤ 4)

pub low_at : (request : Option ExplainRequest) (s : ℕ) → list_any (λ n. n == s) (explain_statuses request) ≡ true → s ≤ 4 → IsLow request s
low_at request s found low = (found_among (explain_statuses request) s found, low)

-- a command reads this file alone, and may fail at it
pub record ReadsOne (request : Option ExplainRequest) (name : List ℕ) : Type 0 where
  pub one : explain_files request ≡ name ∷ []
  pub can_fail : Contains (explain_statuses request) 5

module _ (request : Option ExplainRequest) (name : List ℕ) (reads : ReadsOne request name)
    (told : Option Files) (left_before left_now : Files) (faults_before faults_now : List ℕ → ℕ) (others : OthersStay left_before left_now name) where
  abbrev Done : Result Reply Stop → Type 0
  Done result = Replies request told left_before left_now faults_before faults_now result

  files_are : (files : Files) → AreFiles told (explain_files request) files → told ≡ Some files
  files_are files (are_told e) = e
  files_are files (none_read e) = let no : name ∷ [] ≡ [] = sym reads.one ∙ e in absurd (cc)

  others_stay : (s : ℕ) (other : List ℕ) → ¬ Contains (touched_at s (explain_files request)) other → left_now other ≡ left_before other
  others_stay s other free =
      let names : touched_at s (explain_files request) ≡ name ∷ [] = subst (λ (ns : List (List ℕ)). touched_at s ns ≡ name ∷ []) (sym reads.one) (touched_one s name) in
      others other (not_first other name [] (subst (λ (ns : List (List ℕ)). ¬ Contains ns other) names free))

  reads_one : explain_files request ≡ [] → ⊥
  reads_one e = let no : name ∷ [] ≡ [] = sym reads.one ∙ e in cc

  -- a reply that is a row of the table
  pub ended : (r : Reply) → IsLow request (status_of r) → HasReplyText r → ((files : Files) → told ≡ Some files → IsExplanation request files (status_of r) (reply_text r)) → Done (Ok r)
  ended r low has_text row = record {
    lawful = λ files h. row files (files_are files h);
    known = low.0;
    low = low.1;
    has_text = has_text;
    read_fault = λ e. absurd (cc);
    untouched = others_stay (status_of r);
    uncounted = λ e. absurd (reads_one e);
  }

  -- no memory was found
  pub wanting : Done (Err stop.NoMemory)
  wanting = record {
    lawful = λ files h. tt;
    known = may_want_memory request;
    low = tt;
    has_text = tt;
    read_fault = λ e. absurd (cc);
    untouched = others_stay 7;
    uncounted = λ e. absurd (reads_one e);
  }

  -- the file could not be read
  pub unread : Rose (faults_before name) (faults_now name) → Done (Err stop.ReadFault)
  unread rose = record {
    lawful = λ files h. tt;
    known = reads.can_fail;
    low = tt;
    has_text = tt;
    read_fault = λ e. at_study name [] reads.one rose others;
    untouched = others_stay 5;
    uncounted = λ e. absurd (reads_one e);
  }

-- its row is a study that is refused, or one of which the rest holds
pub record IsStudyCommand (request : Option ExplainRequest) (name : List ℕ) (IsRest : Question → ℕ → List ℕ → Type 0) : Type 0 where
  pub reads : ReadsOne request name
  pub into : (files : Files) (status : ℕ) (text : List ℕ) → OverStudy files name (bare_run status) text (λ study. IsRest study status text) → IsExplanation request files status text
  pub can_refuse : IsLow request 3
  pub ends : (study : Question) (status : ℕ) (text : List ℕ) → IsRest study status text → IsLow request status

module _ (request : Option ExplainRequest) (name : List ℕ) (IsRest : Question → ℕ → List ℕ → Type 0) (command : IsStudyCommand request name IsRest)
    (told : Option Files) (left_before left_now : Files) (faults_before faults_now : List ℕ → ℕ) (others : OthersStay left_before left_now name) where
  abbrev Promised : Result Reply Stop → Type 0
  Promised result = Replies request told left_before left_now faults_before faults_now result

  row_ended : (r : Reply) → IsLow request (status_of r) → HasReplyText r → ((files : Files) → told ≡ Some files → IsExplanation request files (status_of r) (reply_text r)) → Promised (Ok r)
  row_ended r low has_text row = ended request name command.reads told left_before left_now faults_before faults_now others r low has_text row

  row_wanting : Promised (Err stop.NoMemory)
  row_wanting = wanting request name command.reads told left_before left_now faults_before faults_now others

  -- the study was read, and the rest holds of the reply
  pub study_reply : (study : Question) (result : Result Reply Stop) → IsStudyRead told name study → IfOk result (λ r. IsRest study (status_of r) (reply_text r)) → IfOk result HasReplyText
      → result ≢ Err stop.ReadFault → Promised result
  study_reply study (Ok r) read rest has_text none =
      row_ended r (command.ends study (status_of r) (reply_text r) rest) has_text
      (λ files e. command.into files (status_of r) (reply_text r) (study_given study (given told name study files read e) rest))
  study_reply study (Err stop.ReadFault) read rest has_text none = absurd (none refl)
  study_reply study (Err stop.NoMemory) read rest has_text none = row_wanting

  -- the study is refused
  pub refused_study : (answer : Answer) → Refuses told name answer → Promised (Ok (reply.Refused answer))
  refused_study answer refuses =
      let three : status_of (reply.Refused answer) ≡ 3 = refuses.bare.ends in
      row_ended (reply.Refused answer) (subst (IsLow request) (sym three) command.can_refuse) refuses.has_text
      (λ files e. command.into files (status_of (reply.Refused answer)) (reply_text (reply.Refused answer))
      (study_refused (refuses.line files e) (record { ends = three; no_verdict = refl; no_logs = refl; no_sharp = refl })))

  -- or could not be read
  pub stopped_study : (e : Stop) → (IsErrOf {T = Opened} (Err e) stop.ReadFault → Rose (faults_before name) (faults_now name)) → Promised (Err e)
  stopped_study stop.ReadFault rose = unread request name command.reads told left_before left_now faults_before faults_now others (rose refl)
  stopped_study stop.NoMemory rose = row_wanting

-- ---- over the clauses of the study

-- the status of an answer over the clauses of a study
pub over_clauses : (request : Option ExplainRequest) (study : Question) (status : ℕ) (text : List ℕ) (IsRest : Type 0) → IsLow request 3 → (IsRest → IsLow request status)
    → OverClauses study (bare_run status) text IsRest → IsLow request status
over_clauses request study status text IsRest three low (clauses_refused fault e line bare) = subst (IsLow request) (sym bare.ends) three
over_clauses request study status text IsRest three low (clauses_made none is) = low is

-- the clauses are refused
pub no_clauses : (study : Question) (fault : GroundFault) (P : Type 0) → fault ≢ NoMemory → IsRefused fault (clauses_fault study)
    → OverClauses study (bare_run (status_of (reply.Refused (NoClauses study fault)))) (reply_text (reply.Refused (NoClauses study fault))) P
no_clauses study fault P known is =
    clauses_refused fault (refusal_is fault (clauses_fault study) known is) refl (record { ends = refl; no_verdict = refl; no_logs = refl; no_sharp = refl })
