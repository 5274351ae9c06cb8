-- What follows from the row of `gain`. Each is proved as the contract of a function of the same name in src/laws.rt.
use Rattle.std.specs.Prelude.{◌≡◌, ◌≢◌, ◌≤◌, ◌↔◌, ℕ, List, length, codes, Some, IsTrue}
use Rattle.edge.specs.Shelf.{Files}
use Rattle.vocab.specs.declared.kinds.Kind.TheVariants.{Sets}
use Rattle.vocab.specs.Study.{Question}
use Rattle.verdicts.specs.declared.verdicts.Verdict.{Verdict}
use Rattle.verdicts.specs.declared.verdicts.Verdict.TheVariants.{Possible}
use Rattle.verdicts.specs.Report.{IsReport}
use Rattle.verdicts.specs.FirstFault.{Confirmed}
use Rattle.choice_sets.specs.Laws.{HasNoGain}
use Rattle.words.specs.Words.{Gain, request_of}
use Rattle.sharp_verdicts.specs.Judged.{has_sharp_title}
use Rattle.answers.specs.declared.runs.Run.{Run}
use Rattle.answers.specs.FileLimits.{most_report_bytes}
use Rattle.answers.specs.Studies.{GivesStudy, RefusesStudy}
use Rattle.answers.specs.Check.{judgement, judgement_status}
use Rattle.answers.specs.Gain.{said_of_gain}
use Rattle.answers.specs.Lawful.{Lawful}
use Rattle.answers.specs.Devices.{Devices}
use Rattle.answers.specs.Call.{IsCall}
use Rattle.answers.specs.Laws.{Says}

-- over a study of sets, of the confirmed report of a rule, `gain` says `none` exactly where no voter gains in the rule
abbrev pub NoneIsNoGain : Type 0
NoneIsNoGain =
    (words : List (List ℕ)) (files : Files) (run : Run) (text name report bytes table : List ℕ) (study : Question) →
    Lawful words files run text → request_of words ≡ Some (Gain name report) → GivesStudy files name study →
    study.size.kind ≡ Sets → files report ≡ Some bytes → judgement study bytes ≡ Confirmed (Possible table) →
    (text ≡ codes "none\n") ↔ HasNoGain study.size table

-- row by row: a study that is refused, one of another kind, a report that is judged, the report of a right verdict,
-- and a text that begins with the title of a sharp one, which is no report, whatever follows and however long
pub record AreGainRows (d : Devices) (run : Run) (files : Files) (name report : List ℕ) : Type 0 where
  pub refused : (text : List ℕ) → RefusesStudy files name text → Says d run 3 text
  pub other_kind : (study : Question) → GivesStudy files name study → study.size.kind ≢ Sets
      → Says d run 3 (codes "study: kind not sets\n")
  pub judged : (study : Question) (bytes : List ℕ) → GivesStudy files name study → study.size.kind ≡ Sets
      → files report ≡ Some bytes
      → Says d run (judgement_status (judgement study bytes)) (said_of_gain study (judgement study bytes))
  pub right : (study : Question) (bytes : List ℕ) (verdict : Verdict) → GivesStudy files name study
      → study.size.kind ≡ Sets → files report ≡ Some bytes → IsReport study verdict bytes
      → length bytes ≤ most_report_bytes → Says d run 0 (said_of_gain study (Confirmed verdict))
  pub sharp : (study : Question) (bytes : List ℕ) → GivesStudy files name study → study.size.kind ≡ Sets
      → files report ≡ Some bytes → IsTrue (has_sharp_title bytes) → Says d run 1 (codes "refused line 1: form\n")

-- each row of `gain` is what is answered where it applies, faults and want of memory aside
abbrev pub GainsAreAnswered : Type 0
GainsAreAnswered =
    (words : List (List ℕ)) (d : Devices) (run : Run) (files : Files) (name report : List ℕ) →
    IsCall words d run → d.told ≡ Some files → request_of words ≡ Some (Gain name report) →
    run.status ≤ 4 → AreGainRows d run files name report
