-- What calls come to where no device fails, and what words that are no command come to.
use Rattle.std.proofs.Common.{◌≡◌, ◌≢◌, ◌∙◌, refl, sym, ap, subst, ℕ, ◌≤◌, ◌⊎◌, inl, inr, true, true≢false, List, [], ◌∷◌, Option, None, Some, arith}
use Rattle.std.specs.Prelude.{◌==◌, Contains}
use Rattle.std.specs.List.{list_any}
use Rattle.std.specs.Io.KnownBytes.{Appends}
use Rattle.std.proofs.lemmas.Bool.{cases_lt}
use Rattle.edge.specs.Shelf.{Files}
use Rattle.edge.specs.Told.{AppendsPrefix}
use Rattle.vocab.specs.Study.{Question}
use Rattle.rule_lists.specs.declared.answers.Ending.{Ending as ListEnding}
use Rattle.rule_lists.specs.declared.answers.Ending.TheVariants as list_ends
use Rattle.core_maps.specs.declared.answers.Ending.{Ending}
use Rattle.core_maps.specs.declared.answers.Ending.TheVariants.{Whole, Cut}
use Rattle.core_maps.proofs.MapLaws.{none_left}
use Rattle.instance_text.specs.Said.{is_there}
use Rattle.answers.specs.Call.{AreFiles, are_told, none_read, touched_at}
use Rattle.answers.specs.Check.{judged, judged_status}
use Rattle.answers.specs.Devices.{Devices}
use Rattle.answers.specs.Grounding.{clauses_fault}
use Rattle.answers.specs.Laws.{AreQuiet}
use Rattle.answers.specs.Studies.{GivesStudy, RefusesStudy, OverStudy, study_refused, study_given}
use Rattle.answers.proofs.RowLemmas.{some_same}
use Rattle.answers.proofs.AmongLemmas.{among_found}
use Rattle.answers.proofs.DeviceLaws.{none_of_none}
use Rattle.explain_words.specs.Words.{ExplainRequest, Story, Instance, Rules, Cores, Look, request_of}
use Rattle.explain_answers.specs.Story.{IsStoryAnswer, bare_run}
use Rattle.explain_answers.specs.Instance.{instance_status}
use Rattle.explain_answers.specs.Rules.{rules_status}
use Rattle.explain_answers.specs.Cores.{ending_status}
use Rattle.explain_answers.specs.Look.{IsLook, long, refused, told, within}
use Rattle.explain_answers.specs.Lawful.{IsExplanation, explain_usage}
use Rattle.explain_answers.specs.Call.{HasCauseAtFile, IsExplained, IsExplainCall, at_study, at_report, explain_files, explain_statuses}
use Rattle.explain_answers.specs.Completeness.{NoCountRose, IsSearchedOrWanting, ExplainCallsAreComplete, ExplainUsageIsExact, EnoughMaps}
use Rattle.explain_answers.proofs.StatusLemmas.{few_statuses}
use Rattle.explain_answers.proofs.PageLaws.{not_refused, told_of}
use Rattle.explain_answers.proofs.InstanceLaws.{instances_exact}
use Rattle.explain_answers.proofs.RulesLaws.{rules_exact}
use Rattle.explain_answers.proofs.CoresLaws.{cores_exact}
use Rattle.explain_answers.proofs.LookLaws.{looks_exact}
use Rattle.lists.proofs.PlaceLaws.{head_same}

-- ---- statuses by rows

by_ending : (ending : ListEnding) (status : ℕ) → status ≡ rules_status ending → IsSearchedOrWanting status
by_ending list_ends.Whole status e = inl e
by_ending list_ends.More status e = inl e
by_ending list_ends.Open status e = inr (inl e)

by_sets : (ending : Ending) (open_sets : List (List ℕ)) (status : ℕ) → status ≡ ending_status ending open_sets → IsSearchedOrWanting status
by_sets Cut open_sets status e = inr (inl e)
by_sets Whole [] status e = inl e
by_sets Whole (set ∷ open_sets) status e = inr (inl e)

-- a map without open sets has status 4 only where it is cut short
pub cut_at : (ending : Ending) (open_sets : List (List ℕ)) (status : ℕ) → open_sets ≡ [] → status ≡ ending_status ending open_sets → status ≡ 4 → ending ≡ Cut
cut_at Cut open_sets status none e four = refl
cut_at Whole [] status none e four = absurd (omega (arith, e, four))
cut_at Whole (set ∷ open_sets) status none e four = absurd (cc)

-- a study that is refused has status 3
over_refused : (files : Files) (name first line text : List ℕ) (status : ℕ) (IsRest : Question → Type 0) → name ≡ first → RefusesStudy files first line
    → OverStudy files name (bare_run status) text IsRest → status ≡ 3
over_refused files name first line text status IsRest same refuses (study_refused r bare) = bare.ends
over_refused files name first line text status IsRest same refuses (study_given study g rest) =
    absurd (not_refused files name study g line (subst (λ (n : List ℕ). RefusesStudy files n line) (sym same) refuses))

look_refused : (files : Files) (name first line text : List ℕ) (status : ℕ) → name ≡ first → RefusesStudy files first line → IsLook files name status text → status ≡ 3
look_refused files name first line text status same refuses (long h is ends) = ends
look_refused files name first line text status same refuses (within bytes holds (refused fault help bad helps is ends)) = ends
look_refused files name first line text status same refuses (within bytes holds (told study gives row)) =
    absurd (not_refused files name study (record { bytes = bytes; holds = holds; read = gives }) line (subst (λ (n : List ℕ). RefusesStudy files n line) (sym same) refuses))

three_refused : (request : Option ExplainRequest) (files : Files) (first line text : List ℕ) (others : List (List ℕ)) (status : ℕ) → explain_files request ≡ first ∷ others
    → RefusesStudy files first line → IsExplanation request files status text → status ≡ 3
three_refused None files first line text others status named refuses row = absurd (cc)
three_refused (Some (Story study report workers)) files first line text others status named refuses row =
    over_refused files study first line text status _ (head_same study first _ others named) refuses row
three_refused (Some (Instance study axiom_name number)) files first line text others status named refuses row =
    over_refused files study first line text status _ (head_same study first _ others named) refuses row
three_refused (Some (Rules study most workers)) files first line text others status named refuses row =
    over_refused files study first line text status _ (head_same study first _ others named) refuses row
three_refused (Some (Cores study workers)) files first line text others status named refuses row =
    over_refused files study first line text status _ (head_same study first _ others named) refuses row
three_refused (Some (Look study workers)) files first line text others status named refuses row =
    look_refused files study first line text status (head_same study first _ others named) refuses row

by_judged : (files : Files) (name report bytes text : List ℕ) (status : ℕ) (study : Question) → GivesStudy files name study → files report ≡ Some bytes
    → IsStoryAnswer files name report status text → status ≡ judged_status (judged study bytes)
by_judged files name report bytes text status study g held row =
    let is = told_of files name study g report text status row in
    is.ends ∙ ap (λ (b : List ℕ). judged_status (judged study b)) (some_same (files report) is.bytes bytes is.held held)

no_read_cause : (d : Devices) (names : List (List ℕ)) → AreQuiet d names → HasCauseAtFile d.told d.left_before d.left_now d.faults_before d.faults_now names → ⊥
no_read_cause d names quiet (at_study name others is rose stay) = (subst (λ (xs : List (List ℕ)). AreQuiet d xs) is quiet).0 rose
no_read_cause d names quiet (at_report name report is rose given) = (subst (λ (xs : List (List ℕ)). AreQuiet d xs) is quiet).1.0 rose

-- ---- calls

module _ (words : List (List ℕ)) (d : Devices) (status : ℕ) (call : IsExplainCall words d status) where
  module _ (calm : NoCountRose words d) where
    no_read_fault : status ≢ 5
    no_read_fault five = no_read_cause d (explain_files (request_of words)) calm.files (call.read_fault five)

    no_write_fault : status ≢ 6
    no_write_fault six = calm.sink (call.write_fault six)

    -- the answer is lawful and was written, or memory was wanting
    settled : (files : Files) → AreFiles d.told (explain_files (request_of words)) files → IsExplained words d files status ⊎ (status ≡ 7)
    settled files are = elim (cases_lt status 5) [
      | inl low ↦ inl (call.lawful files are (omega (arith, low)))
      | inr high ↦ elim (cases_lt status 6) [
        | inl five ↦ absurd (no_read_fault (omega (arith, five, high)))
        | inr more ↦ elim (cases_lt status 7) [
          | inl six ↦ absurd (no_write_fault (omega (arith, six, more)))
          | inr most ↦ inr (let few : status ≤ 7 = few_statuses (request_of words) status call.known in omega (arith, most, few))
        ]
      ]
    ]

    refused_settled : (files : Files) (name line : List ℕ) (others : List (List ℕ)) → d.told ≡ Some files → explain_files (request_of words) ≡ name ∷ others
        → RefusesStudy files name line → (status ≡ 3) ⊎ (status ≡ 7)
    refused_settled files name line others told_files named refuses = elim (settled files (are_told told_files)) [
      | inl a ↦ inl (three_refused (request_of words) files name line a.text others status named refuses a.lawful)
      | inr seven ↦ inr seven
    ]

    story_settled : (files : Files) (name report bytes : List ℕ) (workers : ℕ) (study : Question) → d.told ≡ Some files → request_of words ≡ Some (Story name report workers)
        → GivesStudy files name study → files report ≡ Some bytes → (status ≡ judged_status (judged study bytes)) ⊎ (status ≡ 7)
    story_settled files name report bytes workers study told_files asked g held = elim (settled files (are_told told_files)) [
      | inl a ↦ inl (by_judged files name report bytes a.text status study g held (subst (λ (r : Option ExplainRequest). IsExplanation r files status a.text) asked a.lawful))
      | inr seven ↦ inr seven
    ]

    instance_settled : (files : Files) (name axiom_name : List ℕ) (number : ℕ) (study : Question) → d.told ≡ Some files → request_of words ≡ Some (Instance name axiom_name number)
        → GivesStudy files name study → (status ≡ instance_status (is_there study axiom_name number)) ⊎ (status ≡ 7)
    instance_settled files name axiom_name number study told_files asked g = elim (settled files (are_told told_files)) [
      | inl a ↦ let is = instances_exact words files status number a.text name axiom_name study a.lawful asked g in inl is.ends
      | inr seven ↦ inr seven
    ]

    rules_settled : (files : Files) (name : List ℕ) (most workers : ℕ) (study : Question) → d.told ≡ Some files → request_of words ≡ Some (Rules name most workers)
        → GivesStudy files name study → clauses_fault study ≡ None → IsSearchedOrWanting status
    rules_settled files name most workers study told_files asked g none = elim (settled files (are_told told_files)) [
      | inl a ↦ let is = rules_exact words files status most workers a.text name study a.lawful asked g none in by_ending is.list.ending status is.ends
      | inr seven ↦ inr (inr seven)
    ]

    cores_settled : (files : Files) (name : List ℕ) (workers : ℕ) (study : Question) → d.told ≡ Some files → request_of words ≡ Some (Cores name workers)
        → GivesStudy files name study → clauses_fault study ≡ None → IsSearchedOrWanting status
    cores_settled files name workers study told_files asked g none = elim (settled files (are_told told_files)) [
      | inl a ↦ let is = cores_exact words files status workers a.text name study a.lawful asked g none in by_sets is.map.ending is.map.sets.open status is.ends
      | inr seven ↦ inr (inr seven)
    ]

    look_settled : (files : Files) (name : List ℕ) (workers : ℕ) (study : Question) → d.told ≡ Some files → request_of words ≡ Some (Look name workers)
        → GivesStudy files name study → clauses_fault study ≡ None → (status ≡ 0) ⊎ (status ≡ 7)
    look_settled files name workers study told_files asked g none = elim (settled files (are_told told_files)) [
      | inl a ↦ let is = (looks_exact words files status workers a.text name a.lawful asked).given study g none in inl is.ends
      | inr seven ↦ inr seven
    ]

    usage_settled : request_of words ≡ None → (status ≡ 2) ⊎ (status ≡ 7)
    usage_settled asked = elim (settled (λ name. None) (none_read (subst (λ (r : Option ExplainRequest). explain_files r ≡ []) (sym asked) refl))) [
      | inl a ↦ let row : IsExplanation None (λ name. None) status a.text = subst (λ (r : Option ExplainRequest). IsExplanation r (λ name. None) status a.text) asked a.lawful in inl row.0
      | inr seven ↦ inr seven
    ]

  -- ---- words that are no command

  nowhere : Files
  nowhere name = None

  no_files : request_of words ≡ None → explain_files (request_of words) ≡ []
  no_files asked = subst (λ (r : Option ExplainRequest). explain_files r ≡ []) (sym asked) refl

  usage_row : (s : ℕ) (text : List ℕ) → request_of words ≡ None → IsExplanation (request_of words) nowhere s text → (s ≡ 2) × (text ≡ explain_usage)
  usage_row s text asked row = subst (λ (r : Option ExplainRequest). IsExplanation r nowhere s text) asked row

  usage_written : request_of words ≡ None → status ≤ 4 → (status ≡ 2) × Appends d.taken_before d.taken_now explain_usage
  usage_written asked low =
      let a = call.lawful nowhere (none_read (no_files asked)) low in
      let row = usage_row status a.text asked a.lawful in
      (row.0, subst (λ (t : List ℕ). Appends d.taken_before d.taken_now t) row.1 a.written)

  usage_front : request_of words ≡ None → status ≡ 6 → AppendsPrefix d.taken_before d.taken_now explain_usage
  usage_front asked six =
      let a = call.cut_short nowhere (none_read (no_files asked)) six in
      subst (λ (t : List ℕ). AppendsPrefix d.taken_before d.taken_now t) (usage_row a.status a.text asked a.lawful).1 a.written

  usage_untouched : request_of words ≡ None → (name : List ℕ) → (d.left_now name ≡ d.left_before name) × (d.faults_now name ≡ d.faults_before name)
  usage_untouched asked name =
      let free = subst (λ (names : List (List ℕ)). ¬ Contains (touched_at status names) name) (sym (no_files asked)) (none_of_none name (status == 3)) in
      (call.untouched name free, call.uncounted (no_files asked) name)

-- no command has status 2
no_command : (request : Option ExplainRequest) → list_any (λ s. s == 2) (explain_statuses request) ≡ true → request ≡ None
no_command None e = refl
no_command (Some (Look study workers)) e = absurd (true≢false (sym e))
no_command request e = absurd (true≢false (sym e))

usage_alone : (words : List (List ℕ)) (d : Devices) (status : ℕ) → IsExplainCall words d status → status ≡ 2 → request_of words ≡ None
usage_alone words d status call two =
    no_command (request_of words) (among_found (explain_statuses (request_of words)) 2 (subst (λ (s : ℕ). Contains (explain_statuses (request_of words)) s) two call.known))

-- ---- the laws

pub calls_complete : ExplainCallsAreComplete
calls_complete words d status call calm = record {
  row = settled words d status call calm;
  refused = λ files name text others told_files named refuses. refused_settled words d status call calm files name text others told_files named refuses;
  story = story_settled words d status call calm;
  instance = instance_settled words d status call calm;
  rules = rules_settled words d status call calm;
  cores = cores_settled words d status call calm;
  look = look_settled words d status call calm;
  usage = usage_settled words d status call calm;
  no_read_fault = no_read_fault words d status call calm;
  no_write_fault = no_write_fault words d status call calm;
}

pub usage_exact : ExplainUsageIsExact
usage_exact words d status call = record {
  only = usage_alone words d status call;
  written = usage_written words d status call;
  cut_short = usage_front words d status call;
  untouched = usage_untouched words d status call;
}

pub maps_enough : EnoughMaps
maps_enough words files status workers text name study lawful asked g none enough =
    let is = cores_exact words files status workers text name study lawful asked g none in
    let empty = none_left study is.map is.right enough in
    (is.map, is.right, is.lines, empty, λ four. cut_at is.map.ending is.map.sets.open status empty is.ends four)
