-- `gain`, from what each part promises to what the command does.
use Rattle.std.proofs.Common.{◌≡◌, ◌≢◌, ◌∙◌, sym, refl, subst, ap, ℕ, List, [], ◌∷◌, Option, None, Some, IfSome, Result, Ok, Err, IfOk}
use Rattle.std.specs.Prelude.{IsSomeAnd}
use Rattle.edge.specs.Shelf.{Files}
use Rattle.vocab.specs.declared.kinds.Kind.TheVariants.{Sets}
use Rattle.vocab.specs.Study.{Question}
use Rattle.verdicts.specs.declared.verdicts.Confirmed.{Confirmed as Claim}
use Rattle.verdicts.specs.declared.verdicts.Verdict.{Verdict}
use Rattle.verdicts.specs.declared.refusals.Refusal.{Refusal}
use Rattle.verdicts.specs.Claims.{claim_of}
use Rattle.verdicts.specs.FirstFault.{Judgement, Confirmed, Faulty, TooLong}
use Rattle.verdicts.specs.Judge.{answer, rule_of}
use Rattle.verdicts.proofs.ClaimLaws.{within_limit}
use Rattle.report_files.specs.declared.worths.Worth.{Worth}
use Rattle.report_files.specs.declared.worths.Worth.TheVariants as worth
use Rattle.report_files.specs.declared.worths.JudgedWorth.TheVariants as judged_worth
use Rattle.report_files.specs.Files.{HasReadWhole, IsWorth, IsWorthOf}
use Rattle.report_files.specs.Pieces.{ReaderState, StandsForText}
use Rattle.words.specs.Words.{Gain}
use Rattle.answers.specs.declared.runs.Run.{Run}
use Rattle.answers.specs.FileLimits.{most_report_bytes}
use Rattle.answers.specs.Studies.{GivesStudy, study_refused, study_given}
use Rattle.answers.specs.Check.{judgement, judgement_status}
use Rattle.answers.specs.Gain.{IsGained, IsGainSaid, other_kind, of_sets, rule_gain_text, said_of_gain}
use Rattle.answers.specs.Call.{AreFiles, are_told, none_read}
use Rattle.command_parts.specs.declared.answer.Answer.{Answer}
use Rattle.command_parts.specs.declared.answer.Answer.TheVariants.{Judged, OtherKind}
use Rattle.command_parts.specs.declared.answer.Stop.{Stop}
use Rattle.answer_text.specs.Said.{worth_text}
use Rattle.command_parts.specs.Answers.{run_of, text_of, worth_status}
use Rattle.command_parts.specs.Opened.{IsStudyRead, Refuses}
use Rattle.command_parts.proofs.OpenLemmas.{given, if_some}
use Rattle.command_parts.proofs.PairLemmas.{IsPairCommand}

-- ---- what is said of a report

module _ (study : Question) where
  abbrev SaidAs : Judgement Verdict Refusal → Worth → Type 0
  SaidAs a w = (worth_status w ≡ judgement_status a) × (worth_text w ≡ said_of_gain study a)

  -- of one that is not confirmed, what `check` says
  by_judgement : (a : Judgement Verdict Refusal) (w : Worth) → ((claim : Claim) → w ≢ worth.Confirmed claim) → IsWorth a w → SaidAs a w
  by_judgement (Confirmed verdict) w other is = absurd (never (claim_of verdict) is)
    where
      never : (o : Option Claim) → IsSomeAnd o (λ claim. w ≡ worth.Confirmed claim) → ⊥
      never None h = h
      never (Some claim) h = other claim h
  by_judgement (Faulty line word) w other is = subst (λ (x : Worth). SaidAs (Faulty line word) x) (sym is) (refl, refl)
  by_judgement TooLong w other is = subst (λ (x : Worth). SaidAs TooLong x) (sym is) (refl, refl)

  pub refused_file : (told : Option Files) (report : List ℕ) (w : Worth) → ((claim : Claim) → w ≢ worth.Confirmed claim)
      → IfSome told (λ files. IsWorthOf study files report w)
      → (files : Files) → told ≡ Some files → IsGainSaid files report study (run_of (Judged (judged_worth.Report w))) (text_of (Judged (judged_worth.Report w)))
  refused_file told report w other is files e =
      let (bytes, held, worth_is) = if_some told (λ files. IsWorthOf study files report w) files is e in
      let said = by_judgement (judgement study bytes) w other worth_is in
      record { bytes = bytes; held = held; ends = record { ends = said.0; no_verdict = refl; no_logs = refl; no_sharp = refl }; is = said.1 }

  -- of a confirmed one, what is said of its rule
  rule_said : (held : List ℕ) (claim : Claim) (w : Worth) (rule : Option (List ℕ)) (a : Judgement Verdict Refusal) → judgement study held ≡ a
      → w ≡ worth.Confirmed claim → IsWorth a w → rule ≡ rule_of (answer study held)
      → (0 ≡ judgement_status a) × (rule_gain_text study.size rule ≡ said_of_gain study a)
  rule_said held claim w rule (Confirmed verdict) e same is told =
      let within = (within_limit most_report_bytes study held verdict).0 e in
      (refl, ap (rule_gain_text study.size) (told ∙ ap rule_of within.1))
  rule_said held claim w rule (Faulty line word) e same is told = absurd (let wrong = sym same ∙ is in cc)
  rule_said held claim w rule TooLong e same is told = absurd (let wrong = sym same ∙ is in cc)

  pub confirmed_file : (told : Option Files) (report : List ℕ) (w : Worth) (claim : Claim) (said : Answer) (rule : Option (List ℕ)) → w ≡ worth.Confirmed claim
      → IfSome told (λ files. IsWorthOf study files report w) → IfSome told (λ files. (held : List ℕ) → files report ≡ Some held → rule ≡ rule_of (answer study held))
      → run_of said ≡ record { status = 0; verdict = None; logs = []; sharp = None } → text_of said ≡ rule_gain_text study.size rule
      → (files : Files) → told ≡ Some files → IsGainSaid files report study (run_of said) (text_of said)
  confirmed_file told report w claim said rule same is rules run text files e =
      let (bytes, held, worth_is) = if_some told (λ files. IsWorthOf study files report w) files is e in
      let of_rule = if_some told (λ files. (held : List ℕ) → files report ≡ Some held → rule ≡ rule_of (answer study held)) files rules e in
      let found = rule_said bytes claim w rule (judgement study bytes) refl same worth_is (of_rule bytes held) in
      record {
        bytes = bytes;
        held = held;
        ends = record { ends = ap (λ (r : Run). r.status) run ∙ found.0; no_verdict = ap (λ (r : Run). r.verdict) run; no_logs = ap (λ (r : Run). r.logs) run; no_sharp = ap (λ (r : Run). r.sharp) run };
        is = text ∙ found.1;
      }

-- what a reader of the whole file tells of its rule
pub rules_told : (told : Option Files) (r : ReaderState) (study : Question) (report : List ℕ) (w : Worth) (claim : Claim) (rule : Option (List ℕ))
    → w ≡ worth.Confirmed claim → r.checker.study ≡ study → IfSome told (λ files. HasReadWhole r files report w)
    → ((text : List ℕ) → StandsForText r text → rule ≡ rule_of (answer r.checker.study text))
    → IfSome told (λ files. (held : List ℕ) → files report ≡ Some held → rule ≡ rule_of (answer study held))
rules_told None r study report w claim rule same is whole tells = tt
rules_told (Some files) r study report w claim rule same is whole tells = λ held at.
    subst (λ (q : Question). rule ≡ rule_of (answer q held)) is (tells held (whole claim held same at))

-- ---- the command

pub gain_command : (name report : List ℕ) → IsPairCommand (Some (Gain name report)) name report
gain_command name report = record { two = refl; statuses = refl }

module _ (told : Option Files) (name report : List ℕ) where
  -- a study of sets that was read is taken
  pub sets_taken : (study : Question) → study.size.kind ≡ Sets → IsStudyRead told name study
      → IfSome told (λ files. (study : Question) × GivesStudy files name study × (study.size.kind ≡ Sets))
  sets_taken study sets read = go told refl
    where
      go : (o : Option Files) → told ≡ o → IfSome o (λ files. (study : Question) × GivesStudy files name study × (study.size.kind ≡ Sets))
      go None e = tt
      go (Some files) e = (study, given told name study files read e, sets)

  -- the report is judged over it
  pub gain_rows : (study : Question) (result : Result Answer Stop) → study.size.kind ≡ Sets → IsStudyRead told name study
      → IfOk result (λ answer. (files : Files) → told ≡ Some files → IsGainSaid files report study (run_of answer) (text_of answer))
      → (files : Files) → AreFiles told (name ∷ report ∷ []) files → IfOk result (λ answer. IsGained files name report (run_of answer) (text_of answer))
  gain_rows study (Ok answer) sets read said files (are_told e) = study_given study (given told name study files read e) (of_sets sets (said files e))
  gain_rows study (Ok answer) sets read said files (none_read e) = absurd (cc)
  gain_rows study (Err stop) sets read said files h = tt

  -- a study of another kind is refused
  pub other_row : (study : Question) → study.size.kind ≢ Sets → IsStudyRead told name study → (files : Files) → AreFiles told (name ∷ report ∷ []) files
      → IsGained files name report (run_of OtherKind) (text_of OtherKind)
  other_row study other read files (are_told e) =
      study_given study (given told name study files read e) (other_kind other refl (record { ends = refl; no_verdict = refl; no_logs = refl; no_sharp = refl }))
  other_row study other read files (none_read e) = absurd (cc)

  -- and so is the file of no study
  pub no_study_row : (answer : Answer) → Refuses told name answer → (files : Files) → AreFiles told (name ∷ report ∷ []) files
      → IsGained files name report (run_of answer) (text_of answer)
  no_study_row answer refuses files (are_told e) = study_refused (refuses.line files e) refuses.bare
  no_study_row answer refuses files (none_read e) = absurd (cc)
