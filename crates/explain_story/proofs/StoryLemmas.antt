-- The command `story`, from what each part promises to what it promises of its reply.
use Rattle.std.proofs.Common.{◌≡◌, ◌∙◌, sym, refl, subst, ℕ, ◌≤◌, true, List, [], ◌∷◌, Option, Some, IfSome, Result, Ok, Err, IfOk, IsErrOf, arith, zero, suc}
use Rattle.std.specs.Prelude.{◌==◌, Contains}
use Rattle.std.specs.List.{list_any}
use Rattle.edge.specs.Shelf.{Files, OthersStay, NoneFell}
use Rattle.edge.specs.Faults.{Rose}
use Rattle.vocab.specs.Study.{Question}
use Rattle.verdicts.specs.FirstFault.{Confirmed, Faulty, TooLong}
use Rattle.sharp_verdicts.specs.Judged.{Judged, AsReport, AsSharp}
use Rattle.answers.specs.Check.{judged, judged_status}
use Rattle.answers.specs.Studies.{GivesStudy, study_refused, study_given}
use Rattle.answers.specs.Call.{AreFiles, are_told, none_read, touched_at}
use Rattle.answers.proofs.AmongLemmas.{found_among, not_first, not_later}
use Rattle.command_parts.specs.declared.answer.Answer.{Answer}
use Rattle.command_parts.specs.declared.answer.Stop.{Stop}
use Rattle.command_parts.specs.declared.answer.Stop.TheVariants as stop
use Rattle.command_parts.specs.Opened.{IsStudyRead, Refuses}
use Rattle.command_parts.proofs.OpenLemmas.{given, if_some}
use Rattle.verdict_reading.specs.declared.reading.Reading.{Reading}
use Rattle.verdict_reading.specs.declared.reading.Reading.TheVariants as reading
use Rattle.verdict_reading.specs.Readings.{reading_of, IsReadOf}
use Rattle.command_parts.proofs.PairLemmas.{both_touched, rose_since}
use Rattle.explain_words.specs.Words.{ExplainRequest, Story}
use Rattle.explain_answers.specs.Story.{IsSaid, IsStoryAnswer, IsToldOf}
use Rattle.explain_answers.specs.Call.{at_study, at_report}
use Rattle.explain_parts.specs.declared.reply.Reply.{Reply}
use Rattle.explain_parts.specs.declared.reply.Reply.TheVariants as reply
use Rattle.explain_parts.specs.Replies.{HasReplyText, Replies, status_of, reply_text}
use Rattle.explain_story.specs.Replied.{IsReplyTo}

-- ---- what is replied to what was read

module _ (study : Question) (name report : List ℕ) where
  abbrev RepliesAs : Judged → Reply → Type 0
  RepliesAs a r = (status_of r ≡ judged_status a) × IsSaid study name report a (reply_text r)

  by_judgement : (a : Judged) (r : Reply) → IsReplyTo study name report (reading_of a) r → RepliesAs a r
  by_judgement (AsReport (Confirmed verdict)) (reply.Page page) h = (refl, h)
  by_judgement (AsReport (Confirmed verdict)) r h = absurd h
  by_judgement (AsReport (Faulty line word)) r h = subst (λ (x : Reply). RepliesAs (AsReport (Faulty line word)) x) (sym h) (refl, refl)
  by_judgement (AsReport TooLong) r h = subst (λ (x : Reply). RepliesAs (AsReport TooLong) x) (sym h) (refl, refl)
  by_judgement (AsSharp (Confirmed v)) (reply.Page page) h = (refl, h)
  by_judgement (AsSharp (Confirmed v)) r h = absurd h
  by_judgement (AsSharp (Faulty line word)) r h = subst (λ (x : Reply). RepliesAs (AsSharp (Faulty line word)) x) (sym h) (refl, refl)
  by_judgement (AsSharp TooLong) r h = subst (λ (x : Reply). RepliesAs (AsSharp TooLong) x) (sym h) (refl, refl)

  pub told_reply : (told : Option Files) (read : Reading) (r : Reply) → IfSome told (λ files. IsReadOf study files report read) → IsReplyTo study name report read r
      → (files : Files) → told ≡ Some files → IsToldOf files name report study (status_of r) (reply_text r)
  told_reply told read r is h files e =
      let i = if_some told (λ files. IsReadOf study files report read) files is e in
      let said = by_judgement (judged study i.bytes) r (subst (λ (x : Reading). IsReplyTo study name report x r) i.is h) in
      record { bytes = i.bytes; held = i.held; ends = said.0; said = said.1 }

  -- its status is at most 1, and it has a text
  abbrev IsLowReply : Reply → Type 0
  IsLowReply r = (status_of r ≤ 1) × HasReplyText r

  reply_is_low : (read : Reading) (r : Reply) → IsReplyTo study name report read r → IsLowReply r
  reply_is_low (reading.Confirmed verdict) (reply.Page page) h = (omega arith, tt)
  reply_is_low (reading.Confirmed verdict) r h = absurd h
  reply_is_low (reading.SharpConfirmed v) (reply.Page page) h = (omega arith, tt)
  reply_is_low (reading.SharpConfirmed v) r h = absurd h
  reply_is_low read r h = subst IsLowReply (sym h) (omega arith, tt)

  pub reply_low : (read : Reading) (r : Reply) → IsReplyTo study name report read r → status_of r ≤ 1
  reply_low read r h = (reply_is_low read r h).0

  pub reply_has_text : (read : Reading) (r : Reply) → IsReplyTo study name report read r → HasReplyText r
  reply_has_text read r h = (reply_is_low read r h).1

-- ---- statuses

abbrev story_statuses : List ℕ
story_statuses = 0 ∷ 1 ∷ 3 ∷ 5 ∷ 6 ∷ 7 ∷ []

low_status : (s : ℕ) → s ≤ 1 → list_any (λ n. n == s) story_statuses ≡ true
low_status zero low = refl
low_status (suc zero) low = refl
low_status (suc (suc s)) low = absurd (omega (arith, low))

-- ---- the command

module _ (name report : List ℕ) (workers : ℕ) (told : Option Files) where
  abbrev asked : Option ExplainRequest
  asked = Some (Story name report workers)

  -- the report is judged over the study that was read
  pub story_rows : (study : Question) (result : Result Reply Stop) → IsStudyRead told name study
      → IfOk result (λ reply. (files : Files) → told ≡ Some files → IsToldOf files name report study (status_of reply) (reply_text reply))
      → (files : Files) → AreFiles told (name ∷ report ∷ []) files → IfOk result (λ reply. IsStoryAnswer files name report (status_of reply) (reply_text reply))
  story_rows study (Ok r) read judged files (are_told e) = study_given study (given told name study files read e) (judged files e)
  story_rows study (Ok r) read judged files (none_read e) = absurd (cc)
  story_rows study (Err s) read judged files h = tt

  -- the study is refused
  refused_row : (answer : Answer) → Refuses told name answer → (files : Files) → AreFiles told (name ∷ report ∷ []) files
      → IsStoryAnswer files name report (status_of (reply.Refused answer)) (reply_text (reply.Refused answer))
  refused_row answer refuses files (are_told e) = study_refused (refuses.line files e) (record { ends = refuses.bare.ends; no_verdict = refl; no_logs = refl; no_sharp = refl })
  refused_row answer refuses files (none_read e) = absurd (cc)

  module _ (left_before left_middle : Files) (faults_before faults_middle : List ℕ → ℕ) (others : OthersStay left_before left_middle name) where
    module _ (left_now : Files) (faults_now : List ℕ → ℕ) where
      abbrev Promised : Result Reply Stop → Type 0
      Promised result = Replies asked told left_before left_now faults_before faults_now result

      two_files : OthersStay left_middle left_now report → (other : List ℕ) → ¬ Contains (name ∷ report ∷ []) other → left_now other ≡ left_before other
      two_files more other free =
          more other (not_first other report [] (not_later other name (report ∷ []) free)) ∙ others other (not_first other name (report ∷ []) free)

      -- the study is given, and the report was read
      pub report_read : (result : Result Reply Stop) → IfSome told (λ files. (study : Question) × GivesStudy files name study) → NoneFell faults_before faults_middle
          → ((files : Files) → AreFiles told (name ∷ report ∷ []) files → IfOk result (λ reply. IsStoryAnswer files name report (status_of reply) (reply_text reply)))
          → IfOk result (λ reply. status_of reply ≤ 1) → IfOk result HasReplyText
          → (IsErrOf result stop.ReadFault → Rose (faults_middle report) (faults_now report)) → OthersStay left_middle left_now report → Promised result
      report_read (Ok r) taken fell row low has_text rose more = record {
        lawful = λ files h. row files h;
        known = found_among story_statuses (status_of r) (low_status (status_of r) low);
        low = omega (arith, low);
        has_text = has_text;
        read_fault = λ e. absurd (cc);
        untouched = λ other free. two_files more other (subst (λ (names : List (List ℕ)). ¬ Contains names other) (both_touched (status_of r) (name ∷ report ∷ []) low) free);
        uncounted = λ e. absurd (cc);
      }
      report_read (Err stop.ReadFault) taken fell row low has_text rose more = record {
        lawful = λ files h. tt;
        known = found_among story_statuses 5 refl;
        low = tt;
        has_text = tt;
        read_fault = λ e. at_report name report refl (rose_since (faults_before report) (faults_middle report) (faults_now report) (fell report) (rose refl)) taken;
        untouched = λ other free. two_files more other free;
        uncounted = λ e. absurd (cc);
      }
      report_read (Err stop.NoMemory) taken fell row low has_text rose more = record {
        lawful = λ files h. tt;
        known = found_among story_statuses 7 refl;
        low = tt;
        has_text = tt;
        read_fault = λ e. absurd (cc);
        untouched = λ other free. two_files more other free;
        uncounted = λ e. absurd (cc);
      }

    -- the study is refused, and the report was not opened
    pub study_refuses : (answer : Answer) → Refuses told name answer → Promised left_middle faults_middle (Ok (reply.Refused answer))
    study_refuses answer refuses =
        let three : status_of (reply.Refused answer) ≡ 3 = refuses.bare.ends in
        record {
          lawful = λ files h. refused_row answer refuses files h;
          known = subst (λ (s : ℕ). Contains story_statuses s) (sym three) (found_among story_statuses 3 refl);
          low = omega (arith, three);
          has_text = refuses.has_text;
          read_fault = λ e. absurd (cc);
          untouched = λ other free. others other (not_first other name [] (subst (λ (s : ℕ). ¬ Contains (touched_at s (name ∷ report ∷ [])) other) three free));
          uncounted = λ e. absurd (cc);
        }

    -- the study could not be read, or memory was wanting
    pub study_stops : {T : Type 0} (e : Stop) → (IsErrOf {T = T} (Err e) stop.ReadFault → Rose (faults_before name) (faults_middle name)) → Promised left_middle faults_middle (Err e)
    study_stops stop.ReadFault rose = record {
      lawful = λ files h. tt;
      known = found_among story_statuses 5 refl;
      low = tt;
      has_text = tt;
      read_fault = λ e. at_study name (report ∷ []) refl (rose refl) others;
      untouched = λ other free. others other (not_first other name (report ∷ []) free);
      uncounted = λ e. absurd (cc);
    }
    study_stops stop.NoMemory rose = record {
      lawful = λ files h. tt;
      known = found_among story_statuses 7 refl;
      low = tt;
      has_text = tt;
      read_fault = λ e. absurd (cc);
      untouched = λ other free. others other (not_first other name (report ∷ []) free);
      uncounted = λ e. absurd (cc);
    }
