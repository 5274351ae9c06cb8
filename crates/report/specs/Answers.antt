-- What a checker of reports answers.
use Rattle.std.specs.Prelude.{◌≡◌, ℕ, List, Option, Some, None, Result, Ok, Err, Bool, true, false, IfOk, IfSome, IsSomeAnd}
use Rattle.vocab.specs.Study.{Question}
use Rattle.verdicts.specs.declared.verdicts.Confirmed.{Confirmed}
use Rattle.verdicts.specs.declared.verdicts.Confirmed.TheVariants as claim
use Rattle.verdicts.specs.declared.verdicts.Verdict.{Verdict}
use Rattle.verdicts.specs.declared.verdicts.Verdict.TheVariants.{Possible}
use Rattle.verdicts.specs.declared.refusals.Refusal.{Refusal}
use Rattle.verdicts.specs.Report.{IsReport}
use Rattle.verdicts.specs.Claims.{claim_of, IsClaimed, ClaimHolds}
use Rattle.verdicts.specs.FirstFault.{Judgement, Confirmed as Confirms, Faulty, TooLong}
use Rattle.verdicts.specs.Laws.{IsReportable}
use Rattle.report_lines.specs.declared.places.Place.{Place}
use Rattle.report_lines.specs.declared.places.Place.TheVariants as place
use Rattle.report.specs.declared.faults.ReportFault.{ReportFault}
use Rattle.report.specs.declared.faults.ReportFault.TheVariants.{Line as AtLine}

-- the fault, if there is one
abbrev pub told_of : Option ReportFault → Result (Unit {0}) ReportFault
told_of None = Ok tt
told_of (Some fault) = Err fault

-- what is answered of a report that is not cut off
abbrev pub Concludes : Judgement Verdict Refusal → Result Confirmed ReportFault → Type 0
Concludes (Confirms verdict) result = IsSomeAnd (claim_of verdict) (λ claim. result ≡ Ok claim)
Concludes (Faulty line word) result = result ≡ Err (AtLine line word)
Concludes TooLong result = ⊥

-- the place after a confirmed report with a rule
abbrev pub is_rule_end : Place → Bool
is_rule_end (place.AtNothing (Some claim.Possible)) = true
is_rule_end _ = false

-- the table that is told is that of the rule of a right verdict whose report the text is
abbrev pub IsReportedRule : Question → List ℕ → Option (List ℕ) → Type 0
IsReportedRule study text result = IfSome result (λ table. IsReport study (Possible table) text)

-- where the text is the report of a right verdict with a rule, its table is told
abbrev pub TellsAll : Question → List ℕ → Option (List ℕ) → Type 0
TellsAll study text result = IsReportable study → (table : List ℕ) → IsReport study (Possible table) text →
    result ≡ Some table

-- what is confirmed is the claim of a right verdict whose report the text is
abbrev pub ConfirmsRight : Question → List ℕ → Result Confirmed ReportFault → Type 0
ConfirmsRight study text result = IfOk result (λ claim. IsClaimed study text claim)

-- where the text is the report of a right verdict, its claim is confirmed
abbrev pub ConfirmsAll : Question → List ℕ → Result Confirmed ReportFault → Type 0
ConfirmsAll study text result = IsReportable study → (claim : Confirmed) → IsClaimed study text claim →
    result ≡ Ok claim

-- what is confirmed holds: some rule satisfies all axioms, or none satisfies those of some core
abbrev pub ConfirmsTrue : Question → Result Confirmed ReportFault → Type 0
ConfirmsTrue study result = IfOk result (λ claim. ClaimHolds study claim)
