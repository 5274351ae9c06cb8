-- What calls with status 0 have written holds, what is refused, and what a large limit leaves open. Each law
-- is proved as the contract of a function of the same name in src/written.rt.
use Rattle.std.specs.Prelude.{◌≡◌, ◌≢◌, ◌≤◌, ◌^◌, ◌↔◌, ℕ, List, [], length, None, Some, IsTrue}
use Rattle.std.specs.Io.KnownBytes.{Appends}
use Rattle.edge.specs.Shelf.{Files}
use Rattle.vocab.specs.Study.{Question}
use Rattle.clause_form.specs.declared.refusals.GroundFault.{GroundFault}
use Rattle.meaning.specs.Variables.{variable_count}
use Rattle.verdicts.specs.declared.verdicts.Verdict.{Verdict}
use Rattle.verdicts.specs.Claims.{Claims}
use Rattle.verdicts.specs.Report.{IsReport}
use Rattle.sharp_verdicts.specs.Right.{Pointed}
use Rattle.sharp_laws.specs.Laws.{IsSharpText, SharpClaims}
use Rattle.rule_lists.specs.declared.answers.Ending.TheVariants.{Open}
use Rattle.rule_lists.specs.declared.answers.RuleList.{RuleList}
use Rattle.rule_lists.specs.RuleLists.{IsRuleList, IsListCutShort, IsFullOver, clauses_with}
use Rattle.rules_text.specs.RulesText.{rules_text}
use Rattle.axiom_sets.specs.Sets.{is_set, has_part, has_whole}
use Rattle.core_maps.specs.declared.answers.CoreMap.{CoreMap}
use Rattle.core_maps.specs.declared.answers.Ending.TheVariants.{Cut}
use Rattle.core_maps.specs.CoreMaps.{HasRule, IsImpossibleSet, IsMapping}
use Rattle.map_text.specs.MapText.{map_text}
use Rattle.answers.specs.Devices.{Devices}
use Rattle.answers.specs.FileLimits.{most_report_bytes, HasFile}
use Rattle.answers.specs.Grounding.{clauses_fault, refusal_line}
use Rattle.answers.specs.Studies.{GivesStudy, RefusesStudy}
use Rattle.explain_words.specs.Words.{ExplainRequest, Story, Instance, Rules, Cores, request_of}
use Rattle.explain_answers.specs.Cores.{cores_status}
use Rattle.explain_answers.specs.Page.{IsPageText, IsSharpPageText}
use Rattle.explain_answers.specs.Rules.{rules_status}
use Rattle.explain_answers.specs.Call.{IsExplainCall}

-- ---- `story`

-- a page of a right verdict, or of a right sharp verdict, was written; the bytes are its report or its text,
-- and what it claims holds
pub data IsPageRight (d : Devices) (study : Question) (name report bytes : List ℕ) : Type 0 where
  of_report : (verdict : Verdict) (text : List ℕ) → IsReport study verdict bytes → Claims study verdict
      → IsPageText study name report verdict text → Appends d.taken_before d.taken_now text
      → IsPageRight d study name report bytes
  of_sharp_text : (v : Pointed) (text : List ℕ) → IsSharpText study v bytes → SharpClaims study v
      → IsSharpPageText study name report v text → Appends d.taken_before d.taken_now text
      → IsPageRight d study name report bytes

-- the files give a study and, within the limit of reports, such bytes
pub record IsPageOfFiles (d : Devices) (files : Files) (name report : List ℕ) : Type 0 where
  pub study : Question
  pub given : GivesStudy files name study
  pub bytes : List ℕ
  pub holds : HasFile files most_report_bytes report bytes
  pub right : IsPageRight d study name report bytes

-- what the page claims that a call of `story` has written with status 0 holds
abbrev pub WrittenPagesHold : Type 0
WrittenPagesHold =
    (words : List (List ℕ)) (d : Devices) (files : Files) (status workers : ℕ) (name report : List ℕ) →
    IsExplainCall words d status → d.told ≡ Some files →
    request_of words ≡ Some (Story name report workers) →
    status ≡ 0 → IsPageOfFiles d files name report

-- ---- `rules`

-- a right list of rules of the study that the file gives was written, and it is known whether there are more
pub record AreRulesOfFile (d : Devices) (files : Files) (name : List ℕ) (most : ℕ) : Type 0 where
  pub study : Question
  pub given : GivesStudy files name study
  pub list : RuleList
  pub right : IsRuleList study most list
  pub known : list.ending ≢ Open
  pub written : Appends d.taken_before d.taken_now (rules_text study list)

-- each rule that a call of `rules` has written with status 0 satisfies the axioms, and the list ends as it
-- says
abbrev pub WrittenRulesHold : Type 0
WrittenRulesHold =
    (words : List (List ℕ)) (d : Devices) (files : Files) (status most workers : ℕ) (name : List ℕ) →
    IsExplainCall words d status → d.told ≡ Some files → request_of words ≡ Some (Rules name most workers) →
    status ≡ 0 → AreRulesOfFile d files name most

-- over the clauses of all axioms, and one for each rule that leaves it out, no clause has room
pub record IsListFull (study : Question) (tables : List (List ℕ)) : Type 0 where
  pub cut : IsListCutShort study tables
  pub full : IsFullOver study (clauses_with study cut.left_out)

-- a right list of rules was written, and where it is not known whether there are more, the list of clauses
-- is full
pub record AreAllButFull (study : Question) (d : Devices) (most status : ℕ) : Type 0 where
  pub list : RuleList
  pub right : IsRuleList study most list
  pub ends : status ≡ rules_status list.ending
  pub full : status ≡ 4 → IsListFull study list.tables
  pub written : Appends d.taken_before d.taken_now (rules_text study list)

-- where the limit of a study is at least 3 to the number of its variables, no search of `rules` spends it,
-- faults and want of memory aside
abbrev pub EnoughRulesAreWritten : Type 0
EnoughRulesAreWritten =
    (words : List (List ℕ)) (d : Devices) (files : Files) (status most workers : ℕ) (name : List ℕ)
    (study : Question) →
    IsExplainCall words d status → d.told ≡ Some files → request_of words ≡ Some (Rules name most workers) →
    GivesStudy files name study → clauses_fault study ≡ None →
    3 ^ variable_count study.size ≤ study.conflicts →
    status ≤ 4 → AreAllButFull study d most status

-- ---- `cores`

-- a map of the study that the file gives was written, and it decides each set of the axioms: some rule
-- satisfies it exactly where it lies within a possible one, and none does exactly where an impossible one
-- lies within it
pub record IsMapOfFile (d : Devices) (files : Files) (name : List ℕ) : Type 0 where
  pub study : Question
  pub given : GivesStudy files name study
  pub map : CoreMap
  pub right : IsMapping study map
  pub decides : (set : List ℕ) → IsTrue (is_set (length study.axioms) set)
      → (HasRule study set ↔ IsTrue (has_whole map.sets.possible set))
      × (IsImpossibleSet study set ↔ IsTrue (has_part map.sets.impossible set))
  pub written : Appends d.taken_before d.taken_now (map_text study map)

-- what a call of `cores` has written with status 0 holds, and leaves no set open
abbrev pub WrittenMapsDecide : Type 0
WrittenMapsDecide =
    (words : List (List ℕ)) (d : Devices) (files : Files) (status workers : ℕ) (name : List ℕ) →
    IsExplainCall words d status → d.told ≡ Some files → request_of words ≡ Some (Cores name workers) →
    status ≡ 0 → IsMapOfFile d files name

-- a right map without an open set was written, and status 4 comes only where the search for one more set was
-- cut short
pub record IsMapWithoutOpen (study : Question) (d : Devices) (status : ℕ) : Type 0 where
  pub map : CoreMap
  pub right : IsMapping study map
  pub ends : status ≡ cores_status map
  pub no_open : map.sets.open ≡ []
  pub cut : status ≡ 4 → map.ending ≡ Cut
  pub written : Appends d.taken_before d.taken_now (map_text study map)

-- where the limit of a study is at least 3 to the number of its variables, a call of `cores` leaves no set
-- open, faults and want of memory aside
abbrev pub EnoughMapsAreWritten : Type 0
EnoughMapsAreWritten =
    (words : List (List ℕ)) (d : Devices) (files : Files) (status workers : ℕ) (name : List ℕ)
    (study : Question) →
    IsExplainCall words d status → d.told ≡ Some files → request_of words ≡ Some (Cores name workers) →
    GivesStudy files name study → clauses_fault study ≡ None →
    3 ^ variable_count study.size ≤ study.conflicts →
    status ≤ 4 → IsMapWithoutOpen study d status

-- ---- what is refused

-- the command makes the clauses of the study in the file of this name
abbrev pub AsksClauses : ExplainRequest → List ℕ → Type 0
AsksClauses (Rules study most workers) name = study ≡ name
AsksClauses (Cores study workers) name = study ≡ name
AsksClauses request name = ⊥

-- the command refuses that study by its line alone; `study` adds what helps
abbrev pub RefusesByLine : ExplainRequest → List ℕ → Type 0
RefusesByLine (Story study report workers) name = study ≡ name
RefusesByLine (Instance study axiom_name number) name = study ≡ name
RefusesByLine request name = AsksClauses request name

-- a study that is refused, and one whose clauses are, get their line
pub record AreExplainRefusals (words : List (List ℕ)) (d : Devices) (files : Files) (status : ℕ)
    : Type 0 where
  pub no_study : (request : ExplainRequest) (name line : List ℕ) → request_of words ≡ Some request
      → RefusesByLine request name → RefusesStudy files name line
      → (status ≡ 3) × Appends d.taken_before d.taken_now line
  pub no_clauses : (request : ExplainRequest) (name : List ℕ) (study : Question) (fault : GroundFault)
      → request_of words ≡ Some request → AsksClauses request name → GivesStudy files name study
      → clauses_fault study ≡ Some fault
      → (status ≡ 3) × Appends d.taken_before d.taken_now (refusal_line study fault)

-- what is refused is refused by its line, faults and want of memory aside
abbrev pub ExplainRefusalsAreWritten : Type 0
ExplainRefusalsAreWritten =
    (words : List (List ℕ)) (d : Devices) (files : Files) (status : ℕ) →
    IsExplainCall words d status → d.told ≡ Some files → status ≤ 4 → AreExplainRefusals words d files status
