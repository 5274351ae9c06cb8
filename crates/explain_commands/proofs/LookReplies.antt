-- What is replied to the bytes of a study.
use Rattle.std.proofs.Common.{◌≡◌, ◌≢◌, refl, sym, subst, ℕ, ◌≤◌, List, length, Option, Some, Result, Ok, Err, IfSome, IfOk, arith}
use Rattle.edge.specs.Shelf.{Files, OthersStay}
use Rattle.vocab.specs.Study.{Question}
use Rattle.study.specs.Reading.{IsStudyOf}
use Rattle.answers.specs.FileLimits.{most_study_bytes}
use Rattle.answers.specs.Grounding.{OverClauses}
use Rattle.answers.proofs.AmongLemmas.{found_among}
use Rattle.command_parts.specs.declared.answer.Stop.{Stop}
use Rattle.command_parts.specs.declared.answer.Stop.TheVariants as stop
use Rattle.command_parts.proofs.OpenLemmas.{if_some}
use Rattle.explain_words.specs.Words.{ExplainRequest, Look}
use Rattle.explain_answers.specs.Look.{IsLookAt, IsLooked, refused, told, within}
use Rattle.explain_answers.specs.Story.{bare_run}
use Rattle.explain_answers.specs.Call.{explain_statuses}
use Rattle.explain_parts.specs.declared.reply.Reply.{Reply}
use Rattle.explain_parts.specs.declared.reply.Reply.TheVariants as reply
use Rattle.explain_parts.specs.Replies.{HasReplyText, Replies, status_of, reply_text}
use Rattle.explain_parts.proofs.StudyReplies.{IsLow, ReadsOne, ended, low_at, over_clauses, wanting}

module _ (name : List ℕ) (workers : ℕ) where
  abbrev asked_look : Option ExplainRequest
  asked_look = Some (Look name workers)

  pub reads_look : ReadsOne asked_look name
  reads_look = record { one = refl; can_fail = found_among (explain_statuses asked_look) 5 refl }

  three : (status : ℕ) → status ≡ 3 → IsLow asked_look status
  three status e = subst (IsLow asked_look) (sym e) (low_at asked_look 3 refl (omega arith))

  zero : (status : ℕ) → status ≡ 0 → IsLow asked_look status
  zero status e = subst (IsLow asked_look) (sym e) (low_at asked_look 0 refl (omega arith))

  look_low : (bytes : List ℕ) (status : ℕ) (text : List ℕ) → IsLookAt bytes status text → IsLow asked_look status
  look_low bytes status text (refused fault help bad helps is ends) = three status ends
  look_low bytes status text (told study gives row) =
      over_clauses asked_look study status text (IsLooked study status text) (low_at asked_look 3 refl (omega arith)) (λ is. zero status is.ends) row

  module _ (told_files : Option Files) (left_before left_now : Files) (faults_before faults_now : List ℕ → ℕ) (others : OthersStay left_before left_now name) where
    abbrev Replied : Result Reply Stop → Type 0
    Replied result = Replies asked_look told_files left_before left_now faults_before faults_now result

    -- the file was read, and this is said of its bytes
    pub look_reply : (bytes : List ℕ) (result : Result Reply Stop) → IfSome told_files (λ files. files name ≡ Some bytes) → length bytes ≤ most_study_bytes
        → IfOk result (λ r. IsLookAt bytes (status_of r) (reply_text r)) → IfOk result HasReplyText → result ≢ Err stop.ReadFault → Replied result
    look_reply bytes (Ok r) held fits said has_text none =
        ended asked_look name reads_look told_files left_before left_now faults_before faults_now others r
        (look_low bytes (status_of r) (reply_text r) said) has_text
        (λ files e. within bytes (record { held = if_some told_files (λ files. files name ≡ Some bytes) files held e; fits = fits }) said)
    look_reply bytes (Err stop.ReadFault) held fits said has_text none = absurd (none refl)
    look_reply bytes (Err stop.NoMemory) held fits said has_text none =
        wanting asked_look name reads_look told_files left_before left_now faults_before faults_now others

-- the row over the clauses of a study that bytes give is what is said of these
pub told_look : (bytes : List ℕ) (study : Question) (result : Result Reply Stop) → IsStudyOf bytes (Ok study)
    → IfOk result (λ r. OverClauses study (bare_run (status_of r)) (reply_text r) (IsLooked study (status_of r) (reply_text r)))
    → IfOk result (λ r. IsLookAt bytes (status_of r) (reply_text r))
told_look bytes study (Ok r) gives row = told study gives row
told_look bytes study (Err e) gives row = tt
