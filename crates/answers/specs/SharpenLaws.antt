-- What follows from the row of `sharpen`. Each is proved as the contract of a function of the same name in src/laws.rt.
use Rattle.std.specs.Prelude.{◌≡◌, ℕ, ◌≤◌, ◌^◌, ◌⊎◌, List, length, slice_get, Any, None, Some, IsTrue, IsFalse}
use Rattle.std.specs.Io.KnownBytes.{Appends}
use Rattle.std.specs.List.{list_all}
use Rattle.edge.specs.Shelf.{Files}
use Rattle.vocab.specs.Study.{Question}
use Rattle.meaning.specs.declared.cores.Witness.TheVariants.{Rule, Open}
use Rattle.meaning.specs.Variables.{variable_count}
use Rattle.clause_form.specs.declared.refusals.GroundFault.{GroundFault}
use Rattle.verdicts.specs.declared.verdicts.Verdict.{Verdict}
use Rattle.verdicts.specs.declared.verdicts.Verdict.TheVariants.{Possible}
use Rattle.verdicts.specs.Claims.{IsRuleFor}
use Rattle.verdicts.specs.FirstFault.{Confirmed}
use Rattle.verdicts.specs.Laws.{is_rule_given}
use Rattle.verdicts.specs.Report.{report_text}
use Rattle.words.specs.Words.{Check, Sharpen, request_of}
use Rattle.search_logs.specs.Spent.{AreSpentLogs}
use Rattle.sharp_verdicts.specs.declared.instances.Cited.{Cited}
use Rattle.sharp_verdicts.specs.declared.sharp.Sharp.{Sharp}
use Rattle.sharp_verdicts.specs.Derived.{derived_study}
use Rattle.sharp_verdicts.specs.Instances.{others_than}
use Rattle.sharp_verdicts.specs.Judged.{AsReport, AsSharp}
use Rattle.sharp_verdicts.specs.Right.{satisfies_instances, IsSharpRight, pointed}
use Rattle.sharp_verdicts.specs.SharpLines.{sharp_text}
use Rattle.sharp_verdicts.specs.Sharpened.{IsWithoutInstance}
use Rattle.sharp_verdicts.specs.Totals.{passes_clause_limits, total}
use Rattle.sharp_laws.specs.Laws.{HasNoRuleOfAll, SharpClaims}
use Rattle.answers.specs.declared.runs.Run.{Run}
use Rattle.answers.specs.FileLimits.{most_report_bytes, HasFile}
use Rattle.answers.specs.Studies.{GivesStudy, RefusesStudy}
use Rattle.answers.specs.Grounding.{clauses_fault, refusal_line}
use Rattle.answers.specs.Check.{judged}
use Rattle.answers.specs.Sharpen.{total_line, IsSharpening}
use Rattle.answers.specs.Devices.{Devices}
use Rattle.answers.specs.Call.{IsCall}
use Rattle.answers.specs.Laws.{confirmed_sharp_line, Says, HasNoFault, Wrote, ConfirmsReport}
use Rattle.answers.specs.RowLaws.{IsConclusiveRun}

-- ---- what holds

-- the instance at a place is needed: the rule that is printed for it makes the bodies of the other listed ones true; or
-- its mark is open, and among the logs is that of a search without it
pub data IsInstanceNeeded (study : Question) (s : Sharp) (k : ℕ) (c : Cited) : Type 0 where
  by_rule : (table : List ℕ) → slice_get s.marks k ≡ Some (Rule table)
      → IsTrue (satisfies_instances study (others_than s.instances c) table) → IsInstanceNeeded study s k c
  by_mark : slice_get s.marks k ≡ Some (Open study.conflicts)
      → Any (IsWithoutInstance s.derived s.instances c) s.logs → IsInstanceNeeded study s k c

-- no listed instance can be left out: no rule of the size makes the bodies of all true, and the rule that is printed
-- for each makes the bodies of the others true
pub record AreAllNeeded (study : Question) (s : Sharp) : Type 0 where
  pub none : HasNoRuleOfAll study s.instances
  pub others : (k : ℕ) (c : Cited) → slice_get s.instances k ≡ Some c
      → (table : List ℕ) × (slice_get s.marks k ≡ Some (Rule table))
      × IsTrue (satisfies_instances study (others_than s.instances c) table)

-- what is printed of a sharpening holds: its verdict is right; so no rule makes the bodies of all listed instances
-- true, none satisfies the axioms of the core, and the rule of each mark makes the bodies of the others true; each
-- listed instance is needed or marked, and where no mark is open, all are needed; and the searches that stand for the
-- marks spent their limit, as did those of the decision before
pub record IsSharpeningRight (study : Question) (run : Run) (s : Sharp) : Type 0 where
  pub right : IsSharpRight study (pointed s)
  pub claims : SharpClaims study (pointed s)
  pub needed : (k : ℕ) (c : Cited) → slice_get s.instances k ≡ Some c → IsInstanceNeeded study s k c
  pub all_needed : IsTrue (list_all is_rule_given s.marks) → AreAllNeeded study s
  pub spent : AreSpentLogs (derived_study study s.derived) s.logs
  pub decided : AreSpentLogs study run.logs

-- the report of a rule, which satisfies all axioms, or the text of a sharpening, which holds
pub data IsSharpPrinted (study : Question) (run : Run) (text : List ℕ) : Type 0 where
  a_rule : (table : List ℕ) → run.verdict ≡ Some (Possible table) → text ≡ report_text study (Possible table)
      → IsRuleFor study table → IsSharpPrinted study run text
  a_sharpening : (s : Sharp) → run.sharp ≡ Some s → text ≡ sharp_text study (pointed s)
      → IsSharpeningRight study run s → IsSharpPrinted study run text

-- whatever study is read, what `sharpen` prints with status 0 holds
abbrev pub SharpenedHolds : Type 0
SharpenedHolds = (files : Files) (name : List ℕ) (run : Run) (text : List ℕ) (study : Question) →
    IsSharpening files name run text → GivesStudy files name study → run.status ≡ 0 → IsSharpPrinted study run text

-- whatever study is read, what a call of `sharpen` has written with status 0 holds
abbrev pub WrittenSharpeningsHold : Type 0
WrittenSharpeningsHold =
    (words : List (List ℕ)) (d : Devices) (run : Run) (files : Files) (name : List ℕ) (workers : ℕ) (study : Question) →
    IsCall words d run → d.told ≡ Some files → request_of words ≡ Some (Sharpen name workers) →
    GivesStudy files name study → run.status ≡ 0 →
    (text : List ℕ) × IsSharpPrinted study run text × Appends d.taken_before d.taken_now text

-- where the limit of a study is at least 3 to the number of its variables, no search of `sharpen` spends it
abbrev pub EnoughSharpens : Type 0
EnoughSharpens = (files : Files) (name : List ℕ) (run : Run) (text : List ℕ) (study : Question) →
    IsSharpening files name run text → GivesStudy files name study →
    3 ^ variable_count study.size ≤ study.conflicts → IsConclusiveRun run

-- row by row: a study that is refused, one whose clauses are, and one whose frames and instances together pass a limit;
-- over any other what is found is told, or that nothing is
pub record AreSharpenRows (d : Devices) (run : Run) (files : Files) (name : List ℕ) : Type 0 where
  pub refused : (text : List ℕ) → RefusesStudy files name text → Says d run 3 text
  pub clauses_refused : (study : Question) (fault : GroundFault) → GivesStudy files name study
      → clauses_fault study ≡ Some fault → Says d run 3 (refusal_line study fault)
  pub total_refused : (study : Question) → GivesStudy files name study → clauses_fault study ≡ None
      → IsTrue (passes_clause_limits (total study)) → Says d run 3 (total_line (total study))
  pub decided : (study : Question) → GivesStudy files name study → clauses_fault study ≡ None
      → IsFalse (passes_clause_limits (total study)) → (run.status ≡ 0) ⊎ (run.status ≡ 4)

-- each row of `sharpen` is what is answered where it applies, faults and want of memory aside
abbrev pub SharpeningsAreAnswered : Type 0
SharpeningsAreAnswered =
    (words : List (List ℕ)) (d : Devices) (run : Run) (files : Files) (name : List ℕ) (workers : ℕ) →
    IsCall words d run → d.told ≡ Some files → request_of words ≡ Some (Sharpen name workers) →
    run.status ≤ 4 → AreSharpenRows d run files name

-- ---- what `check` says of it

-- the verdict that the run has found is confirmed, or the sharp verdict that sharpening came to
pub data IsConfirmedFor (study : Question) (run : Run) (text : List ℕ) : Type 0 where
  by_verdict : (verdict : Verdict) → run.verdict ≡ Some verdict → judged study text ≡ AsReport (Confirmed verdict)
      → IsConfirmedFor study run text
  by_sharp : (s : Sharp) → run.sharp ≡ Some s → judged study text ≡ AsSharp (Confirmed (pointed s))
      → IsConfirmedFor study run text

-- what `sharpen` prints with status 0 is, within the limit of reports, confirmed by `check` over the same study
abbrev pub SharpenedAreConfirmed : Type 0
SharpenedAreConfirmed = (files : Files) (name : List ℕ) (run : Run) (text : List ℕ) (study : Question) →
    IsSharpening files name run text → GivesStudy files name study → run.status ≡ 0 →
    length text ≤ most_report_bytes → IsConfirmedFor study run text

-- a call of `check` confirms a sharp text, faults and want of memory aside; where no fault is counted, only memory may
-- be wanting
pub record ConfirmsSharp (words : List (List ℕ)) (d : Devices) (run : Run) : Type 0 where
  pub says : run.status ≤ 4 → Says d run 0 confirmed_sharp_line
  pub completes : HasNoFault words d → (run.status ≡ 0) ⊎ (run.status ≡ 7)

-- a call of `check` confirms the verdict that another run has found, or the text of what its sharpening came to
pub data ConfirmsFound (found : Run) (words : List (List ℕ)) (d : Devices) (run : Run) : Type 0 where
  a_verdict : (verdict : Verdict) → found.verdict ≡ Some verdict → ConfirmsReport words d run verdict
      → ConfirmsFound found words d run
  a_sharp_text : (s : Sharp) → found.sharp ≡ Some s → ConfirmsSharp words d run → ConfirmsFound found words d run

-- what a call of `sharpen` has written of a study, each call of `check` over files that hold it and give that study,
-- whatever else these hold, confirms; but where the text is too long
abbrev pub WrittenSharpeningsAreConfirmed : Type 0
WrittenSharpeningsAreConfirmed =
    (study : Question) (text : List ℕ) (wrote : Wrote Sharpen study text) →
    (words : List (List ℕ)) (d : Devices) (run : Run) (files : Files) (name report : List ℕ) (workers : ℕ) →
    IsCall words d run → d.told ≡ Some files → request_of words ≡ Some (Check name report workers) →
    GivesStudy files name study → HasFile files most_report_bytes report text →
    ConfirmsFound wrote.run words d run
