-- What is answered of a file that holds a report or a sharp text.
use Rattle.std.specs.Prelude.{◌≡◌, ℕ, ◌<◌, ◌≤◌, Bool, List, ◌++◌, length, Option, Some, IsSomeAnd, Result, IfOk, IsTrue}
use Rattle.std.specs.Io.KnownBytes.{Consumes, IsAtEnd}
use Rattle.edge.specs.Shelf.{Files}
use Rattle.edge.specs.declared.faults.RewindFault.{RewindFault}
use Rattle.edge.specs.declared.faults.RewindFault.TheVariants as rewind
use Rattle.vocab.specs.Study.{Question}
use Rattle.verdicts.specs.declared.refusals.Refusal.{Refusal}
use Rattle.verdicts.specs.declared.verdicts.Verdict.{Verdict}
use Rattle.verdicts.specs.FirstFault.{Judgement, Confirmed as Confirms, Faulty, TooLong}
use Rattle.verdicts.specs.Judge.{answer_within}
use Rattle.verdicts.specs.Claims.{claim_of, IsClaimed, ClaimHolds}
use Rattle.verdicts.specs.Laws.{IsReportable}
use Rattle.verdicts.specs.declared.verdicts.Confirmed.{Confirmed}
use Rattle.sharp_verdicts.specs.declared.refusals.SharpRefusal.{SharpRefusal}
use Rattle.sharp_verdicts.specs.Judged.{Judged, AsReport, AsSharp, judged_within}
use Rattle.sharp_verdicts.specs.Right.{Pointed, IsSharpRight}
use Rattle.sharp_laws.specs.Laws.{IsSharpText, SharpClaims}
use Rattle.report_files.specs.declared.files.Ending.{Ending}
use Rattle.report_files.specs.declared.files.Ending.TheVariants as ending
use Rattle.report_files.specs.declared.files.FileFault.{FileFault}
use Rattle.report_files.specs.declared.files.FileFault.TheVariants as fault
use Rattle.report_files.specs.declared.worths.Worth.{Worth}
use Rattle.report_files.specs.declared.worths.Worth.TheVariants as worth
use Rattle.report_files.specs.declared.worths.SharpWorth.{SharpWorth}
use Rattle.report_files.specs.declared.worths.SharpWorth.TheVariants as sharp_worth
use Rattle.report_files.specs.declared.worths.JudgedWorth.{JudgedWorth}
use Rattle.report_files.specs.declared.worths.JudgedWorth.TheVariants as judged_worth
use Rattle.report_files.specs.Pieces.{ReaderState, StandsForText}

-- the most bytes of a report or a sharp text
abbrev pub most_verdict_bytes : ℕ
most_verdict_bytes = 268435456

-- the fault of a file that was not rewound
abbrev pub file_fault : RewindFault → FileFault
file_fault rewind.Failed = fault.Failed
file_fault rewind.NoMemory = fault.NoMemory

-- where the reading of a file ended: all of it was read, or as much as the limit allows, or as much as has the first faulty line
abbrev pub IsEndedAt : Ending → (before now : Option (List ℕ)) (faulty : Bool) (bytes : List ℕ) → Type 0
IsEndedAt ending.Whole before now faulty bytes = Consumes before now bytes × IsAtEnd now ×
    (length bytes ≤ most_verdict_bytes)
IsEndedAt ending.TooLong before now faulty bytes = (more : List ℕ) × Consumes before now (bytes ++ more) ×
    (0 < length more) × (length bytes ≡ most_verdict_bytes)
IsEndedAt ending.Faulty before now faulty bytes = Consumes before now bytes ×
    (length bytes ≤ most_verdict_bytes) × IsTrue faulty

-- ---- what an answer is worth

-- an answer to a report
abbrev pub IsWorth : Judgement Verdict Refusal → Worth → Type 0
IsWorth (Confirms verdict) w = IsSomeAnd (claim_of verdict) (λ claim. w ≡ worth.Confirmed claim)
IsWorth (Faulty line word) w = w ≡ worth.Faulty line word
IsWorth TooLong w = w ≡ worth.TooLong

-- an answer to a sharp text
abbrev pub IsSharpWorth : Judgement Pointed SharpRefusal → SharpWorth → Type 0
IsSharpWorth (Confirms v) w = w ≡ sharp_worth.Confirmed
IsSharpWorth (Faulty line word) w = w ≡ sharp_worth.Faulty line word
IsSharpWorth TooLong w = w ≡ sharp_worth.TooLong

-- an answer to a text that may be either, of the judge whose it is
abbrev pub IsJudgedWorth : Judged → JudgedWorth → Type 0
IsJudgedWorth (AsReport answer) (judged_worth.Report w) = IsWorth answer w
IsJudgedWorth (AsSharp answer) (judged_worth.Sharp w) = IsSharpWorth answer w
IsJudgedWorth _ _ = ⊥

-- the file is held, and this is what its report is worth
abbrev pub IsWorthOf : Question → Files → List ℕ → Worth → Type 0
IsWorthOf study files name w = (held : List ℕ) × (files name ≡ Some held) ×
    IsWorth (answer_within most_verdict_bytes study held) w

-- the same of a report or a sharp text, as its first line says
abbrev pub IsJudgedWorthOf : Question → Files → List ℕ → JudgedWorth → Type 0
IsJudgedWorthOf study files name w = (held : List ℕ) × (files name ≡ Some held) ×
    IsJudgedWorth (judged_within most_verdict_bytes study held) w

-- ---- what is confirmed of a file

-- the file is held, within the limit, and is the report of a right verdict that has this claim
pub record IsClaimedIn (study : Question) (files : Files) (name : List ℕ) (claim : Confirmed) : Type 0 where
  pub bytes : List ℕ
  pub held : files name ≡ Some bytes
  pub fits : length bytes ≤ most_verdict_bytes
  pub right : IsClaimed study bytes claim

-- the file is held, within the limit, and is the sharp text of a right sharp verdict
pub record IsSharpIn (study : Question) (files : Files) (name : List ℕ) : Type 0 where
  pub bytes : List ℕ
  pub held : files name ≡ Some bytes
  pub fits : length bytes ≤ most_verdict_bytes
  pub verdict : Pointed
  pub text : IsSharpText study verdict bytes

-- what is confirmed is the claim of such a file, or such a sharp text
abbrev pub FileIsRight : Question → Files → List ℕ → JudgedWorth → Type 0
FileIsRight study files name w =
    ((claim : Confirmed) → w ≡ judged_worth.Report (worth.Confirmed claim) → IsClaimedIn study files name claim)
    × (w ≡ judged_worth.Sharp sharp_worth.Confirmed → IsSharpIn study files name)

-- the claim of each such file is confirmed, and each such sharp text, unless the file is not read or memory is wanting
abbrev pub FileIsConfirmed : Question → Files → List ℕ → Result JudgedWorth FileFault → Type 0
FileIsConfirmed study files name result = IsReportable study →
    ((claim : Confirmed) → IsClaimedIn study files name claim → IfOk result (λ w. w ≡ judged_worth.Report (worth.Confirmed claim)))
    × (IsSharpIn study files name → IfOk result (λ w. w ≡ judged_worth.Sharp sharp_worth.Confirmed))

-- where the file is confirmed, the reader has read all of it
abbrev pub HasReadWhole : ReaderState → Files → List ℕ → Worth → Type 0
HasReadWhole r files name w = (claim : Confirmed) (held : List ℕ) → w ≡ worth.Confirmed claim → files name ≡ Some held →
    StandsForText r held

-- what is confirmed holds: some rule satisfies all axioms, or none satisfies those of some core
abbrev pub WorthHolds : Question → Worth → Type 0
WorthHolds study w = (claim : Confirmed) → w ≡ worth.Confirmed claim → ClaimHolds study claim

-- what a sharp text claims that is confirmed holds: it is of a right sharp verdict, and no rule makes the bodies of all instances true that this lists
abbrev pub SharpWorthHolds : Question → SharpWorth → Type 0
SharpWorthHolds study w = w ≡ sharp_worth.Confirmed → (v : Pointed) × IsSharpRight study v × SharpClaims study v

-- the same of a report or a sharp text
abbrev pub JudgedWorthHolds : Question → JudgedWorth → Type 0
JudgedWorthHolds study (judged_worth.Report w) = WorthHolds study w
JudgedWorthHolds study (judged_worth.Sharp w) = SharpWorthHolds study w
