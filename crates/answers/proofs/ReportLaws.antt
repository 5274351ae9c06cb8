-- `check` confirms exactly the reports of right verdicts, those that `decide` prints among them, and the texts of right sharp verdicts; and what reports claim holds.
use Rattle.std.proofs.Common.{◌≡◌, ◌∙◌, ◌↔◌, sym, subst, ap, true≢false, ℕ, ◌≤◌, inl, inr, List, length, Some}
use Rattle.edge.specs.Shelf.{Files}
use Rattle.vocab.specs.Size.{IsSize}
use Rattle.vocab.specs.Study.{Question, HasFewAxioms}
use Rattle.verdicts.specs.declared.verdicts.Verdict.{Verdict}
use Rattle.verdicts.specs.declared.verdicts.Verdict.TheVariants.{Possible, Impossible, Undecided}
use Rattle.verdicts.specs.FirstFault.{Confirmed}
use Rattle.verdicts.specs.Laws.{IsReportable}
use Rattle.verdicts.specs.Report.{IsSomeReport, IsReport}
use Rattle.verdicts.proofs.ClaimLaws.{claims_hold, within_limit}
use Rattle.verdicts.proofs.JudgeLaws.{judge_sound}
use Rattle.verdicts.proofs.ReportLaws.{printed_is_report}
use Rattle.study.proofs.WholeStudies.{studies_whole}
use Rattle.words.specs.Words.{Check}
use Rattle.answers.specs.declared.runs.Run.{Run}
use Rattle.answers.specs.FileLimits.{most_report_bytes}
use Rattle.answers.specs.Studies.{GivesStudy}
use Rattle.answers.specs.Check.{IsJudged, judgement, judged, judgement_status, judged_status}
use Rattle.verdicts.specs.Claims.{Claims}
use Rattle.answers.specs.Decide.{IsReported}
use Rattle.answers.specs.Laws.{IsRightText, CheckedAreRight}
use Rattle.answers.specs.RowLaws.{DecidedAreConfirmed}
use Rattle.answers.proofs.DecidedLaws.{found_at}
use Rattle.answers.proofs.FitLemmas.{right_judged}
use Rattle.answers.proofs.JudgedLaws.{report_checked, sharp_checked, report_answered, sharp_answered, zero_judged}
use Rattle.answers.proofs.RowLemmas.{some_same, row_of, over_study, granted}

-- a study that was read is one whose reports the laws speak of
pub reportable : (files : Files) (name : List ℕ) (study : Question) → GivesStudy files name study → IsReportable study
reportable files name study g =
    let whole = studies_whole g.bytes study g.read in
    record { taken = whole.0; size = whole.1; names = whole.2 }

-- and it has at most 40 axioms
pub listed : (files : Files) (name : List ℕ) (study : Question) → GivesStudy files name study → HasFewAxioms study
listed files name study g = (studies_whole g.bytes study g.read).3

module _ (study : Question) (bytes : List ℕ) where
  -- a verdict that is confirmed is right, within its limit
  pub confirmed_report : (verdict : Verdict) → judgement study bytes ≡ Confirmed verdict → IsReport study verdict bytes × (length bytes ≤ most_report_bytes)
  confirmed_report verdict e =
      let within = (within_limit most_report_bytes study bytes verdict).0 e in
      (judge_sound study bytes verdict within.1, within.0)

  -- what it claims holds
  pub confirmed_claims : IsSize study.size → (verdict : Verdict) → judgement study bytes ≡ Confirmed verdict → Claims study verdict
  confirmed_claims size (Possible table) e =
      (claims_hold study size bytes).0 table ((within_limit most_report_bytes study bytes (Possible table)).0 e).1
  confirmed_claims size (Impossible core story witnesses) e =
      let within = (within_limit most_report_bytes study bytes (Impossible core story witnesses)).0 e in
      λ table. (((claims_hold study size bytes).1 core story witnesses).0 within.1 table).0
  confirmed_claims size Undecided e = true≢false (sym (confirmed_report Undecided e).0.claims_some)

  -- status 0 of `check` says that the text is of something right
  pub by_status : judged_status (judged study bytes) ≡ 0 → IsRightText study bytes × (length bytes ≤ most_report_bytes)
  by_status e = elim (zero_judged (judged study bytes) e) [
    | inl c ↦ let right = confirmed_report c.0 (report_answered study bytes (Confirmed c.0) c.1) in (inl (c.0, right.0), right.1)
    | inr c ↦ let right = sharp_answered study bytes c.0 c.1 in (inr (c.0, right.0), right.1)
  ]

  -- and such a text within its limit has status 0
  by_text : IsReportable study → HasFewAxioms study → IsRightText study bytes → length bytes ≤ most_report_bytes → judged_status (judged study bytes) ≡ 0
  by_text whole few (inl c) fits = ap judged_status (report_checked study bytes c.0 whole few c.1 fits)
  by_text whole few (inr c) fits = ap judged_status (sharp_checked study bytes c.0 whole few c.1 fits)

  -- a confirmed report within its limit has it for `gain` too
  pub by_report : IsReportable study → HasFewAxioms study → IsSomeReport study bytes → length bytes ≤ most_report_bytes → judgement_status (judgement study bytes) ≡ 0
  by_report whole few c fits = ap judgement_status (right_judged study bytes c.0 whole few c.1 fits)

checked_row : (files : Files) (name report : List ℕ) (run : Run) (text : List ℕ) (study : Question) (bytes : List ℕ) → GivesStudy files name study → files report ≡ Some bytes
    → IsJudged files report study run text → (run.status ≡ 0) ↔ (IsRightText study bytes × (length bytes ≤ most_report_bytes))
checked_row files name report run text study bytes g held j =
    let same : j.bytes ≡ bytes = some_same (files report) j.bytes bytes j.held held in
    let status : run.status ≡ judged_status (judged study bytes) = subst (λ (x : List ℕ). run.status ≡ judged_status (judged study x)) same j.ends.ends in (
      λ e. by_status study bytes (sym status ∙ e),
      λ c. status ∙ by_text study bytes (reportable files name study g) (listed files name study g) c.0 c.1,
    )

pub checked_right : CheckedAreRight
checked_right words files run text name report bytes workers study lawful asked g held =
    checked_row files name report run text study bytes g held
    (over_study files name run text _ study g (row_of words files run text (Some (Check name report workers)) asked lawful))

-- what `decide` prints is confirmed
pub decided_confirmed : DecidedAreConfirmed
decided_confirmed files name run text study row g zero_is fits =
    let r = granted files name run text (λ s. IsReported s run text) study g zero_is row in
    let f = found_at study run r.verdict zero_is r.decides in
    let report = printed_is_report study text r.verdict f.claims_some f.right r.is in
    (r.verdict, f.told, report_checked study text r.verdict (reportable files name study g) (listed files name study g) report fits)
