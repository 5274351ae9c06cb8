-- What `decide` and `adopt` have written, `check` confirms.
use Rattle.std.proofs.Common.{◌≡◌, ℕ, ◌≤◌, inl, subst, List, length, Some}
use Rattle.edge.specs.Shelf.{Files}
use Rattle.vocab.specs.Study.{Question}
use Rattle.verdicts.specs.declared.verdicts.Verdict.{Verdict}
use Rattle.verdicts.specs.FirstFault.{Confirmed}
use Rattle.words.specs.Words.{Decide, Check, Adopt, request_of}
use Rattle.sharp_verdicts.specs.Judged.{Judged, AsReport, judged_text}
use Rattle.answers.specs.declared.runs.Run.{Run}
use Rattle.answers.specs.FileLimits.{most_report_bytes, HasFile}
use Rattle.answers.specs.Studies.{GivesStudy}
use Rattle.answers.specs.Check.{judged, judged_status}
use Rattle.answers.specs.Devices.{Devices}
use Rattle.answers.specs.Call.{IsCall}
use Rattle.answers.specs.Laws.{Says, ConfirmsReport, IsConfirmedByCalls, WrittenReportsAreConfirmed}
use Rattle.answers.proofs.JudgedLaws.{report_answered}
use Rattle.answers.proofs.ReportLaws.{confirmed_report, decided_confirmed}
use Rattle.answers.proofs.DeviceLaws.{checks_answered}
use Rattle.answers.proofs.CallLaws.{calls_complete}
use Rattle.answers.proofs.ConfirmedLaws.{row_written}
use Rattle.answers.proofs.AdoptLaws.{adopted_confirmed}

-- a report that the judge confirms is confirmed by each call over files that hold it
pub judged_confirms : (study : Question) (text : List ℕ) (verdict : Verdict) → judged study text ≡ AsReport (Confirmed verdict)
    → (words : List (List ℕ)) (d : Devices) (run : Run) (files : Files) (name report : List ℕ) (workers : ℕ) → IsCall words d run → d.told ≡ Some files
    → request_of words ≡ Some (Check name report workers) → GivesStudy files name study → HasFile files most_report_bytes report text → ConfirmsReport words d run verdict
judged_confirms study text verdict is words d run files name report workers call told asked g holds = record {
  says = λ low. subst (λ (a : Judged). Says d run (judged_status a) (judged_text a)) is ((checks_answered words d run files name report workers call told asked low).judged study text g holds.held);
  completes = λ calm. (calls_complete words d run call calm).check files name report text workers study told asked g holds.held
      (inl (verdict, (confirmed_report study text verdict (report_answered study text (Confirmed verdict) is)).0)) holds.fits;
}

-- what was found is confirmed, where its report is
found_confirms : (found : Run) (study : Question) (text : List ℕ) → (length text ≤ most_report_bytes → (verdict : Verdict) × (found.verdict ≡ Some verdict) × (judged study text ≡ AsReport (Confirmed verdict)))
    → IsConfirmedByCalls found study text
found_confirms found study text confirmed words d run files name report workers call told asked g holds =
    let c = confirmed holds.fits in
    (c.0, c.1, judged_confirms study text c.0 c.2 words d run files name report workers call told asked g holds)

pub reports_confirmed : WrittenReportsAreConfirmed
reports_confirmed = record {
  decide = λ study text wrote. found_confirms wrote.run study text (decided_confirmed wrote.files wrote.name wrote.run text study (row_written Decide study text wrote) wrote.given wrote.done);
  adopt = λ proof study text wrote. found_confirms wrote.run study text (adopted_confirmed wrote.files wrote.name proof wrote.run text study
      (row_written (λ name workers. Adopt name proof workers) study text wrote) wrote.given wrote.done);
}
