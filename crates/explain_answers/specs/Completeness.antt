-- What calls come to where no device fails, what words that are no command come to, and which files are left alone. Each law is
-- proved as the contract of a function of the same name in src/laws.rt.
use Rattle.std.specs.Prelude.{◌≡◌, ◌≢◌, ◌≤◌, ◌^◌, ◌⊎◌, ℕ, List, [], ◌∷◌, Option, None, Some}
use Rattle.std.specs.Io.KnownBytes.{Appends}
use Rattle.edge.specs.Shelf.{Files, OthersStay}
use Rattle.edge.specs.Faults.{Rose}
use Rattle.edge.specs.Told.{AppendsPrefix}
use Rattle.vocab.specs.Study.{Question}
use Rattle.meaning.specs.Variables.{variable_count}
use Rattle.core_maps.specs.declared.answers.CoreMap.{CoreMap}
use Rattle.core_maps.specs.declared.answers.Ending.TheVariants.{Cut}
use Rattle.core_maps.specs.CoreMaps.{IsMapping}
use Rattle.map_text.specs.MapText.{map_text}
use Rattle.instance_text.specs.Said.{is_there}
use Rattle.answers.specs.Check.{judged, judged_status}
use Rattle.answers.specs.Devices.{Devices}
use Rattle.answers.specs.Grounding.{clauses_fault}
use Rattle.answers.specs.Laws.{AreQuiet}
use Rattle.answers.specs.Studies.{GivesStudy, RefusesStudy}
use Rattle.answers.specs.Call.{AreFiles}
use Rattle.explain_words.specs.Words.{Story, Instance, Rules, Cores, Look, request_of}
use Rattle.explain_answers.specs.Instance.{instance_status}
use Rattle.explain_answers.specs.Lawful.{ExplainsWords, explain_usage}
use Rattle.explain_answers.specs.Call.{IsExplained, IsExplainCall, explain_files}

-- ---- where no device fails

-- no count of a file of the command rose, nor that of the sink
pub record NoCountRose (words : List (List ℕ)) (d : Devices) : Type 0 where
  pub files : AreQuiet d (explain_files (request_of words))
  pub sink : ¬ Rose d.sink_faults_before d.sink_faults_now

-- devices that never fail, of which the sink tells nothing
abbrev pub calm_devices : Option Files → (left_before left_now : Files) → Devices
calm_devices told left_before left_now = record {
  told = told;
  left_before = left_before;
  left_now = left_now;
  faults_before = λ name. 0;
  faults_now = λ name. 0;
  taken_before = None;
  taken_now = None;
  sink_faults_before = 0;
  sink_faults_now = 0;
}

-- 0, or 4 where a search was cut short, or 7
abbrev pub IsSearchedOrWanting : ℕ → Type 0
IsSearchedOrWanting status = (status ≡ 0) ⊎ ((status ≡ 4) ⊎ (status ≡ 7))

-- what the row of the words says was written, or memory was wanting. So a study that is refused ends with 3 or 7; over one
-- that a file gives `story` ends as its report is judged, and `instance` by whether there is one; with clauses within the limits
-- `rules` and `cores` end with 0, 4 or 7, and `study` with 0 or 7; words that are no command end with 2 or 7; and no call
-- ends with 5 or 6
pub record AreExplained (words : List (List ℕ)) (d : Devices) (status : ℕ) : Type 0 where
  pub row : (files : Files) → AreFiles d.told (explain_files (request_of words)) files → IsExplained words d files status ⊎ (status ≡ 7)
  pub refused : (files : Files) (name text : List ℕ) (others : List (List ℕ)) → d.told ≡ Some files
      → explain_files (request_of words) ≡ name ∷ others → RefusesStudy files name text → (status ≡ 3) ⊎ (status ≡ 7)
  pub story : (files : Files) (name report bytes : List ℕ) (workers : ℕ) (study : Question) → d.told ≡ Some files
      → request_of words ≡ Some (Story name report workers) → GivesStudy files name study → files report ≡ Some bytes
      → (status ≡ judged_status (judged study bytes)) ⊎ (status ≡ 7)
  pub instance : (files : Files) (name axiom_name : List ℕ) (number : ℕ) (study : Question) → d.told ≡ Some files
      → request_of words ≡ Some (Instance name axiom_name number) → GivesStudy files name study
      → (status ≡ instance_status (is_there study axiom_name number)) ⊎ (status ≡ 7)
  pub rules : (files : Files) (name : List ℕ) (most workers : ℕ) (study : Question) → d.told ≡ Some files
      → request_of words ≡ Some (Rules name most workers) → GivesStudy files name study → clauses_fault study ≡ None
      → IsSearchedOrWanting status
  pub cores : (files : Files) (name : List ℕ) (workers : ℕ) (study : Question) → d.told ≡ Some files
      → request_of words ≡ Some (Cores name workers) → GivesStudy files name study → clauses_fault study ≡ None
      → IsSearchedOrWanting status
  pub look : (files : Files) (name : List ℕ) (workers : ℕ) (study : Question) → d.told ≡ Some files
      → request_of words ≡ Some (Look name workers) → GivesStudy files name study → clauses_fault study ≡ None
      → (status ≡ 0) ⊎ (status ≡ 7)
  pub usage : request_of words ≡ None → (status ≡ 2) ⊎ (status ≡ 7)
  pub no_read_fault : status ≢ 5
  pub no_write_fault : status ≢ 6

abbrev pub ExplainCallsAreComplete : Type 0
ExplainCallsAreComplete =
    (words : List (List ℕ)) (d : Devices) (status : ℕ) → IsExplainCall words d status → NoCountRose words d →
    AreExplained words d status

-- ---- words that are no command

-- status 2 comes only where the words are no command; there, faults and want of memory aside, it comes and the usage line is
-- written, and at a fault of the sink the front of that line; and no file is touched
pub record IsExplainUsageExact (words : List (List ℕ)) (d : Devices) (status : ℕ) : Type 0 where
  pub only : status ≡ 2 → request_of words ≡ None
  pub written : request_of words ≡ None → status ≤ 4 → (status ≡ 2) × Appends d.taken_before d.taken_now explain_usage
  pub cut_short : request_of words ≡ None → status ≡ 6 → AppendsPrefix d.taken_before d.taken_now explain_usage
  pub untouched : request_of words ≡ None → (name : List ℕ)
      → (d.left_now name ≡ d.left_before name) × (d.faults_now name ≡ d.faults_before name)

abbrev pub ExplainUsageIsExact : Type 0
ExplainUsageIsExact =
    (words : List (List ℕ)) (d : Devices) (status : ℕ) → IsExplainCall words d status → IsExplainUsageExact words d status

-- ---- what is left alone

-- of the files of a command none but the first was touched where the call ends with status 3; and `story` leaves the report
-- alone where the shelf tells that no study is given, even if that file could not be read or its line could not be written,
-- want of memory aside
pub record ExplainLeavesUnopened (words : List (List ℕ)) (d : Devices) (status : ℕ) : Type 0 where
  pub at_three : status ≡ 3 → (first : List ℕ) (others : List (List ℕ)) → explain_files (request_of words) ≡ first ∷ others
      → OthersStay d.left_before d.left_now first
  pub at_story : (files : Files) (name report : List ℕ) (workers : ℕ) → d.told ≡ Some files
      → request_of words ≡ Some (Story name report workers) → ¬ ((study : Question) × GivesStudy files name study)
      → status ≤ 6 → OthersStay d.left_before d.left_now name

abbrev pub RefusedExplainLeavesUnopened : Type 0
RefusedExplainLeavesUnopened =
    (words : List (List ℕ)) (d : Devices) (status : ℕ) → IsExplainCall words d status → ExplainLeavesUnopened words d status

-- ---- a large limit

-- where the limit of a study is at least 3 to the number of its variables, the map that `cores` writes has no open set, and
-- status 4 comes only where the search for one more set was cut short
abbrev pub EnoughMaps : Type 0
EnoughMaps =
    (words : List (List ℕ)) (files : Files) (status workers : ℕ) (text name : List ℕ) (study : Question) →
    ExplainsWords words files status text → request_of words ≡ Some (Cores name workers) →
    GivesStudy files name study → clauses_fault study ≡ None → 3 ^ variable_count study.size ≤ study.conflicts →
    (map : CoreMap) × IsMapping study map × (text ≡ map_text study map) × (map.sets.open ≡ []) × (status ≡ 4 → map.ending ≡ Cut)
