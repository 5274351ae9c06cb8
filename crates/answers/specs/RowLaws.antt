-- What follows from the rows of commands over a study, or over clauses. Each is proved as the contract of a
-- function of the same name in src/laws.rt.
use Rattle.std.specs.Prelude.{◌≡◌, ◌≢◌, ℕ, ◌≤◌, ◌^◌, ◌==◌, ◌↔◌, not, filter, Bool, List, [], length, Any, codes, None, Some, Ok, IsTrue}
use Rattle.std.specs.List.{list_all}
use Rattle.std.specs.Io.KnownBytes.{Appends}
use Rattle.edge.specs.Shelf.{Files}
use Rattle.vocab.specs.Study.{Question}
use Rattle.cnf.specs.declared.derivations.Line.{Line}
use Rattle.cnf.specs.Derived.{IsAccepted}
use Rattle.cnf.specs.Sat.{IsUnsatisfiable, is_satisfied}
use Rattle.meaning.specs.declared.cores.Witness.{Witness}
use Rattle.meaning.specs.declared.stories.Lemma.{Lemma}
use Rattle.meaning.specs.Cores.{is_core_right}
use Rattle.meaning.specs.Stories.{is_story}
use Rattle.meaning.specs.Tidy.{is_tidy}
use Rattle.meaning.specs.Truth.{satisfies}
use Rattle.meaning.specs.Variables.{variable_count}
use Rattle.verdicts.specs.declared.verdicts.Verdict.{Verdict}
use Rattle.verdicts.specs.declared.verdicts.Verdict.TheVariants.{Possible, Impossible}
use Rattle.verdicts.specs.FirstFault.{Confirmed}
use Rattle.verdicts.specs.Laws.{is_rule_given}
use Rattle.verdicts.specs.Report.{report_text}
use Rattle.samples.specs.Sample.{IsSampleStudy}
use Rattle.clause_text.specs.Lrat.{lrat_text}
use Rattle.clause_text.specs.ReadDimacs.{Formula}
use Rattle.clause_text.specs.ReadLrat.{read_lrat}
use Rattle.search_logs.specs.declared.logs.SearchLog.{SearchLog}
use Rattle.search_logs.specs.Spent.{has_place, all_places, IsWithout, HaveEvidence, AreSpentLogs}
use Rattle.sharp_verdicts.specs.declared.sharp.Sharp.{Sharp}
use Rattle.sharp_verdicts.specs.Judged.{AsReport}
use Rattle.answers.specs.declared.runs.Run.{Run}
use Rattle.answers.specs.Runs.{IsBare}
use Rattle.answers.specs.FileLimits.{most_report_bytes, most_proof_bytes, HasFile}
use Rattle.answers.specs.Studies.{GivesStudy}
use Rattle.verdicts.specs.Claims.{IsRuleFor, HasNoRule, Claims}
use Rattle.answers.specs.Grounding.{all_clauses, clauses_fault}
use Rattle.words.specs.Words.{Request, Decide, Proof, Adopt, Sharpen, request_of}
use Rattle.answers.specs.Devices.{Devices}
use Rattle.answers.specs.Call.{IsCall}
use Rattle.answers.specs.Check.{judged}
use Rattle.answers.specs.Export.{export_text, IsExported}
use Rattle.answers.specs.Decide.{IsDecided}
use Rattle.answers.specs.Proof.{IsProved}
use Rattle.answers.specs.Lrat.{GivesFormula, IsLratAnswer}
use Rattle.answers.specs.Sample.{summary_line, IsSampled}
use Rattle.answers.specs.Adopt.{AreCited, IsAdoption}

-- ---- `export`

-- the text is that of the clauses, and these are satisfiable exactly where some rule satisfies all axioms
pub record SaysStudy (study : Question) (text : List ℕ) : Type 0 where
  pub is : text ≡ export_text study
  pub means : ((v : ℕ → Bool) × IsTrue (is_satisfied v (all_clauses study)))
      ↔ ((table : List ℕ) × IsRuleFor study table)

-- what `export` writes with status 0 says of a study what its axioms say
abbrev pub ExportedSaysStudy : Type 0
ExportedSaysStudy = (files : Files) (name : List ℕ) (run : Run) (text : List ℕ) (study : Question) →
    IsExported files name run text → GivesStudy files name study → run.status ≡ 0 → SaysStudy study text

-- ---- `decide`

-- an axiom of a core is needed: some rule satisfies the others; or its mark is open, and among the logs is
-- that of a search without it
pub data IsNeeded (study : Question) (logs : List SearchLog) (core : List ℕ) (k : ℕ) : Type 0 where
  by_rule : (table : List ℕ)
      → IsTrue (satisfies study.size study.axioms (filter (λ c. not (c == k)) core) table)
      → IsNeeded study logs core k
  by_mark : Any (IsWithout study core k) logs → IsNeeded study logs core k

-- what is printed of an impossibility holds: no rule satisfies the axioms of the core; the story is accepted
-- and tidy; the core is of axioms in the order of the study, each with its witness, a rule that satisfies the
-- others or an open mark with the limit and its log; so each axiom of the core is needed or marked; and the
-- searches that stand for the marks spent their limit
pub record IsImpossibilityRight (study : Question) (logs : List SearchLog) (core : List ℕ) (story : List Lemma)
    (witnesses : List Witness) : Type 0 where
  pub none : HasNoRule study core
  pub witnessed : IsTrue (is_core_right study.size study.axioms study.conflicts core witnesses)
  pub logged : HaveEvidence study logs core core witnesses
  pub accepted : IsTrue (is_story study.size study.axioms core story)
  pub tidy : IsTrue (is_tidy study.size study.axioms core story)
  pub needed : (k : ℕ) → IsTrue (has_place core k) → IsNeeded study logs core k
  pub spent : AreSpentLogs study logs

-- the report of a rule, which satisfies all axioms, or of an impossibility, which holds
pub data IsPrinted (study : Question) (run : Run) (text : List ℕ) : Type 0 where
  a_rule : (table : List ℕ) → run.verdict ≡ Some (Possible table) → text ≡ report_text study (Possible table)
      → IsRuleFor study table → IsPrinted study run text
  an_impossibility : (core : List ℕ) (story : List Lemma) (witnesses : List Witness)
      → run.verdict ≡ Some (Impossible core story witnesses)
      → text ≡ report_text study (Impossible core story witnesses)
      → IsImpossibilityRight study run.logs core story witnesses → IsPrinted study run text

-- whatever study is read, what `decide` prints with status 0 holds
abbrev pub DecidedHolds : Type 0
DecidedHolds = (files : Files) (name : List ℕ) (run : Run) (text : List ℕ) (study : Question) →
    IsDecided files name run text → GivesStudy files name study → run.status ≡ 0 → IsPrinted study run text

-- whatever study is read, what a call of `decide` has written with status 0 holds
abbrev pub WrittenDecisionsHold : Type 0
WrittenDecisionsHold =
    (words : List (List ℕ)) (d : Devices) (run : Run) (files : Files) (name : List ℕ) (workers : ℕ) (study : Question) →
    IsCall words d run → d.told ≡ Some files → request_of words ≡ Some (Decide name workers) →
    GivesStudy files name study → run.status ≡ 0 →
    (text : List ℕ) × IsPrinted study run text × Appends d.taken_before d.taken_now text

-- what `decide` prints with status 0 is, within the limit of reports, confirmed by `check` over the same
-- study
abbrev pub DecidedAreConfirmed : Type 0
DecidedAreConfirmed = (files : Files) (name : List ℕ) (run : Run) (text : List ℕ) (study : Question) →
    IsDecided files name run text → GivesStudy files name study → run.status ≡ 0 →
    length text ≤ most_report_bytes →
    (verdict : Verdict) × (run.verdict ≡ Some verdict) × (judged study text ≡ AsReport (Confirmed verdict))

-- what sharpening came to has no log, and each instance has a rule
pub record IsWithoutOpen (s : Sharp) : Type 0 where
  pub no_log : s.logs ≡ []
  pub marked : IsTrue (list_all is_rule_given s.marks)

-- as far as the run tells, no search spent its limit: status 4 did not come, and each axiom of a core that was
-- found has a rule, and so has each instance of a sharpening
pub record IsConclusiveRun (run : Run) : Type 0 where
  pub decided : run.status ≢ 4
  pub no_log : run.logs ≡ []
  pub marked : (core : List ℕ) (story : List Lemma) (witnesses : List Witness)
      → run.verdict ≡ Some (Impossible core story witnesses) → IsTrue (list_all is_rule_given witnesses)
  pub sharp : (s : Sharp) → run.sharp ≡ Some s → IsWithoutOpen s

-- where the limit of a study is at least 3 to the number of its variables, no search of `decide` spends it
abbrev pub EnoughDecides : Type 0
EnoughDecides = (files : Files) (name : List ℕ) (run : Run) (text : List ℕ) (study : Question) →
    IsDecided files name run text → GivesStudy files name study →
    3 ^ variable_count study.size ≤ study.conflicts → IsConclusiveRun run

-- ---- `proof`

-- where the limit of a study is at least 3 to the number of its variables, `proof` does not spend it
abbrev pub EnoughProves : Type 0
EnoughProves = (files : Files) (name : List ℕ) (run : Run) (text : List ℕ) (study : Question) →
    IsProved files name run text → GivesStudy files name study →
    3 ^ variable_count study.size ≤ study.conflicts → IsConclusiveRun run

-- an accepted derivation from the clauses of all axioms, so that no rule satisfies these; or a rule that does
pub data IsProofRight (study : Question) (run : Run) (text : List ℕ) : Type 0 where
  a_refutation : (lines : List Line) → run.verdict ≡ None → text ≡ lrat_text lines
      → IsAccepted (all_clauses study) lines → HasNoRule study (all_places study)
      → IsProofRight study run text
  its_rule : (table : List ℕ) → run.verdict ≡ Some (Possible table) → text ≡ codes "c possible\n"
      → IsRuleFor study table → IsProofRight study run text

-- whatever study is read, what `proof` writes with status 0 holds
abbrev pub ProvedHolds : Type 0
ProvedHolds = (files : Files) (name : List ℕ) (run : Run) (text : List ℕ) (study : Question) →
    IsProved files name run text → GivesStudy files name study → run.status ≡ 0 → IsProofRight study run text

-- ---- `lrat`

-- `lrat` confirms only where no assignment satisfies the clauses
abbrev pub ConfirmedIsUnsatisfiable : Type 0
ConfirmedIsUnsatisfiable =
    (files : Files) (name proof : List ℕ) (run : Run) (text : List ℕ) (formula : Formula) →
    IsLratAnswer files name proof run text → GivesFormula files name formula → run.status ≡ 0 →
    IsUnsatisfiable formula.clauses

-- over these files `lrat` confirms, and answers nothing else
abbrev pub IsConfirming : Files → List ℕ → List ℕ → Type 0
IsConfirming files cnf proof = (run : Run) (text : List ℕ) →
    IsLratAnswer files cnf proof run text ↔ (IsBare run 0 × (text ≡ codes "confirmed\n"))

-- where `export` and `proof` end with status 0 over files that give one study, `lrat` confirms over files that
-- hold what they write, whatever else these hold; but where `proof` writes that there is a rule, or a text that is
-- too long
abbrev pub ProvedAreConfirmed : Type 0
ProvedAreConfirmed =
    (study : Question) (exported proved files : Files) (name name' cnf proof : List ℕ) (run run' : Run)
    (clauses refutation : List ℕ) →
    IsExported exported name run clauses → GivesStudy exported name study → run.status ≡ 0 →
    IsProved proved name' run' refutation → GivesStudy proved name' study → run'.status ≡ 0 →
    refutation ≢ codes "c possible\n" →
    files cnf ≡ Some clauses → HasFile files most_proof_bytes proof refutation →
    IsConfirming files cnf proof

-- ---- `adopt`

-- an impossibility that holds, and its report; the derivation of the proof cites each axiom of its core
pub record IsAdoptedRight (study : Question) (bytes : List ℕ) (run : Run) (text : List ℕ) : Type 0 where
  pub core : List ℕ
  pub story : List Lemma
  pub witnesses : List Witness
  pub lines : List Line
  pub told : run.verdict ≡ Some (Impossible core story witnesses)
  pub is : text ≡ report_text study (Impossible core story witnesses)
  pub holds : IsImpossibilityRight study run.logs core story witnesses
  pub read : read_lrat (variable_count study.size) bytes ≡ Ok lines
  pub cited : AreCited study lines core

-- whatever study and proof are read, what `adopt` prints with status 0 holds
abbrev pub AdoptedHolds : Type 0
AdoptedHolds = (files : Files) (name proof : List ℕ) (run : Run) (text bytes : List ℕ) (study : Question) →
    IsAdoption files name proof run text → GivesStudy files name study → files proof ≡ Some bytes →
    run.status ≡ 0 → IsAdoptedRight study bytes run text

-- whatever study and proof are read, what a call of `adopt` has written with status 0 holds
abbrev pub WrittenAdoptionsHold : Type 0
WrittenAdoptionsHold =
    (words : List (List ℕ)) (d : Devices) (run : Run) (files : Files) (name proof bytes : List ℕ)
    (workers : ℕ) (study : Question) →
    IsCall words d run → d.told ≡ Some files → request_of words ≡ Some (Adopt name proof workers) →
    GivesStudy files name study → files proof ≡ Some bytes → run.status ≡ 0 →
    (text : List ℕ) × IsAdoptedRight study bytes run text × Appends d.taken_before d.taken_now text

-- what `adopt` prints with status 0 is, within the limit of reports, confirmed by `check` over the same study
abbrev pub AdoptedAreConfirmed : Type 0
AdoptedAreConfirmed =
    (files : Files) (name proof : List ℕ) (run : Run) (text : List ℕ) (study : Question) →
    IsAdoption files name proof run text → GivesStudy files name study → run.status ≡ 0 →
    length text ≤ most_report_bytes →
    (verdict : Verdict) × (run.verdict ≡ Some verdict) × (judged study text ≡ AsReport (Confirmed verdict))

-- it ends with this status, and refuses a proof with this text
pub record EndsAs (run run' : Run) (text text' : List ℕ) : Type 0 where
  pub status : run.status ≡ run'.status
  pub refusal : run.status ≡ 1 → text ≡ text'

-- over a study whose clauses are not refused `adopt` ends as `lrat` does over what `export` writes of it, for the
-- same bytes of a proof
abbrev pub AdoptsAsLrat : Type 0
AdoptsAsLrat =
    (study : Question) (adopted confirmed : Files) (name proof cnf proof' : List ℕ) (run run' : Run)
    (text text' bytes : List ℕ) →
    IsAdoption adopted name proof run text → GivesStudy adopted name study → clauses_fault study ≡ None →
    adopted proof ≡ Some bytes →
    IsLratAnswer confirmed cnf proof' run' text' → confirmed cnf ≡ Some (export_text study) →
    confirmed proof' ≡ Some bytes → EndsAs run run' text text'

-- what `proof` writes of a study with status 0 is adopted over files that hold it and give that study; but
-- where it writes that there is a rule, or a text that is too long
abbrev pub ProvedAreAdopted : Type 0
ProvedAreAdopted =
    (study : Question) (proved files : Files) (name' name proof : List ℕ) (run' run : Run)
    (refutation text : List ℕ) →
    IsProved proved name' run' refutation → GivesStudy proved name' study → run'.status ≡ 0 →
    refutation ≢ codes "c possible\n" →
    IsAdoption files name proof run text → GivesStudy files name study →
    HasFile files most_proof_bytes proof refutation → run.status ≡ 0

-- where the limit of a study is at least 3 to the number of its variables, no mark of `adopt` is open
abbrev pub EnoughAdopts : Type 0
EnoughAdopts = (files : Files) (name proof : List ℕ) (run : Run) (text : List ℕ) (study : Question) →
    IsAdoption files name proof run text → GivesStudy files name study →
    3 ^ variable_count study.size ≤ study.conflicts → IsConclusiveRun run

-- the command searches over the study of this name
abbrev pub Searches : Request → List ℕ → Type 0
Searches (Decide study workers) name = study ≡ name
Searches (Proof study workers) name = study ≡ name
Searches (Adopt study proof workers) name = study ≡ name
Searches (Sharpen study workers) name = study ≡ name
Searches request name = ⊥

-- where the limit of a study is at least 3 to the number of its variables, no call that searches over it ends
-- with status 4, or tells of a search that spent the limit, whatever its status
abbrev pub CallsAreConclusive : Type 0
CallsAreConclusive =
    (words : List (List ℕ)) (d : Devices) (run : Run) (files : Files) (request : Request) (name : List ℕ)
    (study : Question) → IsCall words d run → d.told ≡ Some files → request_of words ≡ Some request →
    Searches request name → GivesStudy files name study →
    3 ^ variable_count study.size ≤ study.conflicts → IsConclusiveRun run

-- ---- `sample`

-- a verdict on the study of a number holds, and the text is the summary
pub record IsSampleRight (n : ℕ) (study : Question) (run : Run) (text : List ℕ) : Type 0 where
  pub verdict : Verdict
  pub told : run.verdict ≡ Some verdict
  pub is : text ≡ summary_line n study verdict
  pub holds : Claims study verdict

-- what `sample` says with status 0 of the study of a number holds
abbrev pub SampledHolds : Type 0
SampledHolds = (n : ℕ) (run : Run) (text : List ℕ) (study : Question) →
    IsSampled n run text → IsSampleStudy n study → run.status ≡ 0 → IsSampleRight n study run text
