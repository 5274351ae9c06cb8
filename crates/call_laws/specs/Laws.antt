-- What calls have written holds. Each is proved as the contract of a function of the same name in
-- src/laws.rt.
use Rattle.std.specs.Prelude.{◌≡◌, ◌↔◌, ℕ, ◌≤◌, List, length, codes, Some, Ok, IsTrue}
use Rattle.std.specs.Io.KnownBytes.{Appends}
use Rattle.edge.specs.Shelf.{Files}
use Rattle.vocab.specs.declared.kinds.Kind.TheVariants.{Sets}
use Rattle.vocab.specs.Study.{Question}
use Rattle.cnf.specs.declared.derivations.Line.{Line}
use Rattle.cnf.specs.Derived.{IsAccepted}
use Rattle.cnf.specs.Sat.{IsUnsatisfiable}
use Rattle.meaning.specs.declared.cores.Witness.{Witness}
use Rattle.meaning.specs.declared.stories.Lemma.{Lemma}
use Rattle.verdicts.specs.declared.verdicts.Verdict.{Verdict}
use Rattle.verdicts.specs.declared.verdicts.Verdict.TheVariants.{Possible, Impossible}
use Rattle.verdicts.specs.Claims.{IsRuleFor, HasNoRule}
use Rattle.verdicts.specs.Report.{IsReport}
use Rattle.choice_sets.specs.declared.gains.Manipulation.{Manipulation}
use Rattle.choice_sets.specs.Gains.{gains}
use Rattle.choice_sets.specs.Laws.{HasNoGain, IsManipulation}
use Rattle.clause_text.specs.ReadDimacs.{Formula}
use Rattle.clause_text.specs.ReadLrat.{read_lrat}
use Rattle.samples.specs.Sample.{IsSampleStudy}
use Rattle.words.specs.Words.{Export, Proof, Lrat, Sample, Gain, request_of}
use Rattle.answers.specs.declared.runs.Run.{Run}
use Rattle.answers.specs.Call.{IsCall}
use Rattle.answers.specs.Devices.{Devices}
use Rattle.answers.specs.FileLimits.{most_proof_bytes, most_report_bytes, HasFile}
use Rattle.answers.specs.Gain.{gain_line}
use Rattle.answers.specs.Lrat.{GivesFormula}
use Rattle.answers.specs.RowLaws.{IsProofRight, IsSampleRight, SaysStudy}
use Rattle.answers.specs.Studies.{GivesStudy}

-- a text of which this holds was written
abbrev pub HasWritten : Devices → (List ℕ → Type 0) → Type 0
HasWritten d IsRight = (text : List ℕ) × IsRight text × Appends d.taken_before d.taken_now text

-- ---- `export`, `proof` and `sample`

-- whatever study is read, what a call of `export` has written with status 0 is satisfiable exactly where
-- some rule satisfies all its axioms
abbrev pub WrittenExportsSayStudy : Type 0
WrittenExportsSayStudy =
    (words : List (List ℕ)) (d : Devices) (run : Run) (files : Files) (name : List ℕ) (workers : ℕ)
    (study : Question) →
    IsCall words d run → d.told ≡ Some files → request_of words ≡ Some (Export name workers) →
    GivesStudy files name study → run.status ≡ 0 → HasWritten d (SaysStudy study)

-- whatever study is read, what a call of `proof` has written with status 0 holds
abbrev pub WrittenProofsHold : Type 0
WrittenProofsHold =
    (words : List (List ℕ)) (d : Devices) (run : Run) (files : Files) (name : List ℕ) (workers : ℕ)
    (study : Question) →
    IsCall words d run → d.told ≡ Some files → request_of words ≡ Some (Proof name workers) →
    GivesStudy files name study → run.status ≡ 0 → HasWritten d (IsProofRight study run)

-- what a call of `sample` has written with status 0 of the study of its number holds
abbrev pub WrittenSamplesHold : Type 0
WrittenSamplesHold =
    (words : List (List ℕ)) (d : Devices) (run : Run) (number : ℕ) →
    IsCall words d run → request_of words ≡ Some (Sample number) → run.status ≡ 0 →
    (study : Question) × IsSampleStudy number study × HasWritten d (IsSampleRight number study run)

-- ---- `lrat`

-- the files give clauses and, within the limit, a derivation, which is accepted from these clauses; so no
-- assignment satisfies them; and it was written that the proof is confirmed
pub record IsRefutationConfirmed (d : Devices) (files : Files) (name proof : List ℕ) : Type 0 where
  pub formula : Formula
  pub given : GivesFormula files name formula
  pub bytes : List ℕ
  pub holds : HasFile files most_proof_bytes proof bytes
  pub lines : List Line
  pub read : read_lrat formula.variables bytes ≡ Ok lines
  pub accepted : IsAccepted formula.clauses lines
  pub refuted : IsUnsatisfiable formula.clauses
  pub written : Appends d.taken_before d.taken_now (codes "confirmed\n")

-- where a call of `lrat` ended with status 0, it has written that it confirms, and the proof of the one file
-- refutes the clauses of the other
abbrev pub ConfirmedRefutationsHold : Type 0
ConfirmedRefutationsHold =
    (words : List (List ℕ)) (d : Devices) (run : Run) (files : Files) (name proof : List ℕ) →
    IsCall words d run → d.told ≡ Some files → request_of words ≡ Some (Lrat name proof) →
    run.status ≡ 0 → IsRefutationConfirmed d files name proof

-- ---- `gain`

-- what is said of a right verdict over a study of sets holds: of a rule, that no voter gains, or a line with
-- a voter who gains, at which profile and by which ballot; of an impossibility that there is no rule
pub data IsGainRight (study : Question) (text : List ℕ) : Verdict → Type 0 where
  no_gain : (table : List ℕ) → text ≡ codes "none\n" → IsRuleFor study table → HasNoGain study.size table
      → IsGainRight study text (Possible table)
  a_gain : (table : List ℕ) (m : Manipulation) → text ≡ gain_line study.size table m → IsRuleFor study table
      → IsManipulation study.size m → IsTrue (gains study.size table m)
      → IsGainRight study text (Possible table)
  no_rule : (core : List ℕ) (story : List Lemma) (witnesses : List Witness) → text ≡ codes "no rule\n"
      → HasNoRule study core
      → IsGainRight study text (Impossible core story witnesses)

-- the file of the study gives one of sets, and that of the report is, within its limit, the report of a
-- right verdict, of which what was written holds; and of a rule it is `none` exactly where no voter gains
pub record IsGainWritten (d : Devices) (files : Files) (name report : List ℕ) : Type 0 where
  pub study : Question
  pub given : GivesStudy files name study
  pub sets : study.size.kind ≡ Sets
  pub bytes : List ℕ
  pub held : files report ≡ Some bytes
  pub fits : length bytes ≤ most_report_bytes
  pub verdict : Verdict
  pub right : IsReport study verdict bytes
  pub text : List ℕ
  pub says : IsGainRight study text verdict
  pub none : (table : List ℕ) → verdict ≡ Possible table
      → (text ≡ codes "none\n") ↔ HasNoGain study.size table
  pub written : Appends d.taken_before d.taken_now text

-- what a call of `gain` has written with status 0 holds
abbrev pub WrittenGainsHold : Type 0
WrittenGainsHold =
    (words : List (List ℕ)) (d : Devices) (run : Run) (files : Files) (name report : List ℕ) →
    IsCall words d run → d.told ≡ Some files → request_of words ≡ Some (Gain name report) →
    run.status ≡ 0 → IsGainWritten d files name report
