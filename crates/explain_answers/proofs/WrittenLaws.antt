-- What calls with status 0 have written holds, what is refused, and what a large limit leaves open.
use Rattle.std.proofs.Common.{◌≡◌, ◌≢◌, ◌∙◌, refl, sym, ap, subst, ℕ, ◌<◌, ◌≤◌, ◌^◌, ◌⊎◌, inl, inr, List, [], ◌∷◌, Option, None, Some, arith}
use Rattle.std.specs.Io.KnownBytes.{Appends}
use Rattle.edge.specs.Shelf.{Files}
use Rattle.vocab.specs.Size.{IsSize}
use Rattle.vocab.specs.Study.{Question}
use Rattle.clause_form.specs.declared.refusals.GroundFault.{GroundFault}
use Rattle.cnf.proofs.SpentLaws.{spent_is_short}
use Rattle.meaning.specs.Variables.{variable_count}
use Rattle.verdicts.specs.FirstFault.{Confirmed}
use Rattle.sharp_verdicts.specs.Judged.{Judged}
use Rattle.sharp_laws.proofs.ClaimLaws.{claims_hold}
use Rattle.rule_lists.specs.declared.answers.Ending.{Ending as ListEnding}
use Rattle.rule_lists.specs.declared.answers.Ending.TheVariants as list_ends
use Rattle.rule_lists.specs.RuleLists.{EndsWith, IsListCutShort}
use Rattle.core_maps.specs.declared.answers.Ending.{Ending}
use Rattle.core_maps.specs.declared.answers.Ending.TheVariants.{Whole, Cut}
use Rattle.core_maps.proofs.MapLaws.{decided, none_left}
use Rattle.answers.specs.Call.{are_told}
use Rattle.answers.specs.Check.{judged, judged_status}
use Rattle.answers.specs.Devices.{Devices}
use Rattle.answers.specs.Grounding.{clauses_fault, refusal_line, OverClauses, clauses_refused, clauses_made}
use Rattle.answers.specs.Studies.{GivesStudy, RefusesStudy, OverStudy, study_refused, study_given}
use Rattle.answers.proofs.DeviceLaws.{refused_row}
use Rattle.answers.proofs.JudgedLaws.{report_answered, sharp_answered, zero_judged}
use Rattle.answers.proofs.ReportLaws.{by_status, confirmed_claims, confirmed_report, reportable}
use Rattle.answers.proofs.RowLemmas.{clauses_row, over_study}
use Rattle.explain_words.specs.Words.{ExplainRequest, Story, Instance, Rules, Cores, Look, request_of}
use Rattle.explain_answers.specs.Instance.{IsInstanceSaid}
use Rattle.explain_answers.specs.Story.{IsSaid, IsStoryAnswer, IsToldOf, bare_run}
use Rattle.explain_answers.specs.Rules.{IsRuleListWritten, rules_status}
use Rattle.explain_answers.specs.Cores.{IsMapped, ending_status}
use Rattle.explain_answers.specs.Lawful.{IsExplanation}
use Rattle.explain_answers.specs.Call.{IsExplainCall}
use Rattle.explain_answers.specs.Written.{IsPageRight, of_report, of_sharp_text, IsPageOfFiles, WrittenPagesHold, WrittenRulesHold, IsListFull, EnoughRulesAreWritten, WrittenMapsDecide, EnoughMapsAreWritten, AsksClauses, RefusesByLine, ExplainRefusalsAreWritten}
use Rattle.explain_answers.proofs.RulesLaws.{rules_written}
use Rattle.explain_answers.proofs.CoresLaws.{cores_written}
use Rattle.explain_answers.proofs.CallLaws.{cut_at}

module _ (words : List (List ℕ)) (d : Devices) (files : Files) (status : ℕ) (call : IsExplainCall words d status) (told : d.told ≡ Some files) where
  -- the row of a request, with what was written
  row_at : (request : ExplainRequest) → request_of words ≡ Some request → status ≤ 4
      → (text : List ℕ) × IsExplanation (Some request) files status text × Appends d.taken_before d.taken_now text
  row_at request asked low =
      let a = call.lawful files (are_told told) low in
      (a.text, subst (λ (r : Option ExplainRequest). IsExplanation r files status a.text) asked a.lawful, a.written)

  -- with status 0 neither the file nor its clauses are refused, and the rest of the row holds
  granted : (name text : List ℕ) (IsRest : Question → Type 0) → status ≡ 0 → OverStudy files name (bare_run status) text (λ study. OverClauses study (bare_run status) text (IsRest study))
      → (study : Question) × GivesStudy files name study × IsRest study
  granted name text IsRest zero (study_refused r bare) = let no : 0 ≡ 3 = sym zero ∙ bare.ends in absurd (omega (arith, no))
  granted name text IsRest zero (study_given study g (clauses_refused fault e line bare)) = let no : 0 ≡ 3 = sym zero ∙ bare.ends in absurd (omega (arith, no))
  granted name text IsRest zero (study_given study g (clauses_made none rest)) = (study, g, rest)

-- ---- pages

module _ (d : Devices) (study : Question) (name report bytes text : List ℕ) (size : IsSize study.size) (written : Appends d.taken_before d.taken_now text) where
  page_right : judged_status (judged study bytes) ≡ 0 → IsSaid study name report (judged study bytes) text → IsPageRight d study name report bytes
  page_right zero is = elim (zero_judged (judged study bytes) zero) [
    | inl c ↦
        let answered = report_answered study bytes (Confirmed c.0) c.1 in
        of_report c.0 text (confirmed_report study bytes c.0 answered).0 (confirmed_claims study bytes size c.0 answered)
        (subst (λ (a : Judged). IsSaid study name report a text) c.1 is) written
    | inr c ↦
        let right = (sharp_answered study bytes c.0 c.1).0 in
        of_sharp_text c.0 text right (claims_hold study size c.0 right.right)
        (subst (λ (a : Judged). IsSaid study name report a text) c.1 is) written
  ]

page_of : (d : Devices) (files : Files) (name report text : List ℕ) (status : ℕ) → status ≡ 0 → Appends d.taken_before d.taken_now text
    → IsStoryAnswer files name report status text → IsPageOfFiles d files name report
page_of d files name report text status zero written (study_refused r bare) = let no : 0 ≡ 3 = sym zero ∙ bare.ends in absurd (omega (arith, no))
page_of d files name report text status zero written (study_given study g told) =
    let confirms : judged_status (judged study told.bytes) ≡ 0 = sym told.ends ∙ zero in
    record {
      study = study;
      given = g;
      bytes = told.bytes;
      holds = record { held = told.held; fits = (by_status study told.bytes confirms).1 };
      right = page_right d study name report told.bytes text (reportable files name study g).size written confirms told.said;
    }

pub pages_hold : WrittenPagesHold
pages_hold words d files status workers name report call told asked zero =
    let a = row_at words d files status call told (Story name report workers) asked (omega (arith, zero)) in
    page_of d files name report a.0 status zero a.2 a.1

-- ---- lists of rules

-- with status 0 it is known whether there are more
not_open : (ending : ListEnding) (status : ℕ) → status ≡ rules_status ending → status ≡ 0 → ending ≢ list_ends.Open
not_open list_ends.Whole status ends zero e = absurd (cc)
not_open list_ends.More status ends zero e = absurd (cc)
not_open list_ends.Open status ends zero e = let no : 0 ≡ 4 = sym zero ∙ ends in absurd (omega (arith, no))

-- with status 4 it is not, and the search was cut short
cut_short : (study : Question) (most : ℕ) (tables : List (List ℕ)) (ending : ListEnding) (status : ℕ) → status ≡ rules_status ending → status ≡ 4
    → EndsWith study most tables ending → IsListCutShort study tables
cut_short study most tables list_ends.Whole status ends four is = let no : 0 ≡ 4 = sym ends ∙ four in absurd (omega (arith, no))
cut_short study most tables list_ends.More status ends four is = let no : 0 ≡ 4 = sym ends ∙ four in absurd (omega (arith, no))
cut_short study most tables list_ends.Open status ends four is = is

-- where the limit is large, no search spent it
full_of : (study : Question) (tables : List (List ℕ)) → 3 ^ variable_count study.size ≤ study.conflicts → IsListCutShort study tables → IsListFull study tables
full_of study tables enough cut = elim cut.cause [
  | inl spent ↦
      let short : study.conflicts < 3 ^ variable_count study.size = spent_is_short (variable_count study.size) _ study.conflicts spent.0 spent.1 in
      absurd (omega (arith, short, enough))
  | inr full ↦ record { cut = cut; full = full }
]

pub rules_hold : WrittenRulesHold
rules_hold words d files status most workers name call told asked zero =
    let a = row_at words d files status call told (Rules name most workers) asked (omega (arith, zero)) in
    let r = granted words d files status call told name a.0 (λ q. IsRuleListWritten q most status a.0) zero a.1 in
    record {
      study = r.0;
      given = r.1;
      list = r.2.list;
      right = r.2.right;
      known = not_open r.2.list.ending status r.2.ends zero;
      written = subst (λ (t : List ℕ). Appends d.taken_before d.taken_now t) r.2.lines a.2;
    }

pub rules_enough : EnoughRulesAreWritten
rules_enough words d files status most workers name study call told asked g none enough low =
    let a = rules_written words d files status most workers name study call told asked g none low in
    record {
      list = a.1.list;
      right = a.1.right;
      ends = a.1.ends;
      full = λ four. full_of study a.1.list.tables enough (cut_short study most a.1.list.tables a.1.list.ending status a.1.ends four a.1.right.ends);
      written = subst (λ (t : List ℕ). Appends d.taken_before d.taken_now t) a.1.lines a.2;
    }

-- ---- maps

-- with status 0 a map is whole, and no set is open
settled : (ending : Ending) (open_sets : List (List ℕ)) (status : ℕ) → status ≡ ending_status ending open_sets → status ≡ 0 → (ending ≡ Whole) × (open_sets ≡ [])
settled Cut open_sets status ends zero = let no : 0 ≡ 4 = sym zero ∙ ends in absurd (omega (arith, no))
settled Whole [] status ends zero = (refl, refl)
settled Whole (set ∷ open_sets) status ends zero = let no : 0 ≡ 4 = sym zero ∙ ends in absurd (omega (arith, no))

pub maps_decide : WrittenMapsDecide
maps_decide words d files status workers name call told asked zero =
    let a = row_at words d files status call told (Cores name workers) asked (omega (arith, zero)) in
    let r = granted words d files status call told name a.0 (λ q. IsMapped q status a.0) zero a.1 in
    let whole = settled r.2.map.ending r.2.map.sets.open status r.2.ends zero in
    record {
      study = r.0;
      given = r.1;
      map = r.2.map;
      right = r.2.right;
      decides = decided r.0 r.2.map r.2.right whole.0 whole.1;
      written = subst (λ (t : List ℕ). Appends d.taken_before d.taken_now t) r.2.lines a.2;
    }

pub maps_enough_written : EnoughMapsAreWritten
maps_enough_written words d files status workers name study call told asked g none enough low =
    let a = cores_written words d files status workers name study call told asked g none low in
    let empty = none_left study a.1.map a.1.right enough in
    record {
      map = a.1.map;
      right = a.1.right;
      ends = a.1.ends;
      no_open = empty;
      cut = λ four. cut_at a.1.map.ending a.1.map.sets.open status empty a.1.ends four;
      written = subst (λ (t : List ℕ). Appends d.taken_before d.taken_now t) a.1.lines a.2;
    }

-- ---- what is refused

module _ (words : List (List ℕ)) (d : Devices) (files : Files) (status : ℕ) (call : IsExplainCall words d status) (told : d.told ≡ Some files) (low : status ≤ 4) where
  -- a row that gives a text with status 3 was written
  said : (text line : List ℕ) → Appends d.taken_before d.taken_now text → (status ≡ 3) × (text ≡ line) → (status ≡ 3) × Appends d.taken_before d.taken_now line
  said text line written row = (row.0, subst (λ (t : List ℕ). Appends d.taken_before d.taken_now t) row.1 written)

  -- of a command whose row is one over the study of a file
  refused_at : (request : ExplainRequest) (study name line : List ℕ) (IsRest : List ℕ → Question → Type 0) → request_of words ≡ Some request
      → ((text : List ℕ) → IsExplanation (Some request) files status text → OverStudy files study (bare_run status) text (IsRest text))
      → study ≡ name → RefusesStudy files name line → (status ≡ 3) × Appends d.taken_before d.taken_now line
  refused_at request study name line IsRest asked into same refuses =
      let a = row_at words d files status call told request asked low in
      said a.0 line a.2
      (refused_row files name (bare_run status) a.0 line (IsRest a.0) refuses (subst (λ (n : List ℕ). OverStudy files n (bare_run status) a.0 (IsRest a.0)) same (into a.0 a.1)))

  refusal : (request : ExplainRequest) (name line : List ℕ) → request_of words ≡ Some request → RefusesByLine request name → RefusesStudy files name line
      → (status ≡ 3) × Appends d.taken_before d.taken_now line
  refusal (Story study report workers) name line asked same refuses =
      refused_at (Story study report workers) study name line (λ text q. IsToldOf files study report q status text) asked (λ text row. row) same refuses
  refusal (Instance study axiom_name number) name line asked same refuses =
      refused_at (Instance study axiom_name number) study name line (λ text q. IsInstanceSaid q axiom_name number status text) asked (λ text row. row) same refuses
  refusal (Rules study most workers) name line asked same refuses =
      refused_at (Rules study most workers) study name line (λ text q. OverClauses q (bare_run status) text (IsRuleListWritten q most status text)) asked (λ text row. row) same refuses
  refusal (Cores study workers) name line asked same refuses =
      refused_at (Cores study workers) study name line (λ text q. OverClauses q (bare_run status) text (IsMapped q status text)) asked (λ text row. row) same refuses
  refusal (Look study workers) name line asked same refuses = absurd same

  -- of a command whose row is one over the clauses of the study of a file
  over_clauses_at : (request : ExplainRequest) (study name : List ℕ) (q : Question) (fault : GroundFault) (IsRest : List ℕ → Question → Type 0) → request_of words ≡ Some request
      → ((text : List ℕ) → IsExplanation (Some request) files status text → OverStudy files study (bare_run status) text (λ s. OverClauses s (bare_run status) text (IsRest text s)))
      → study ≡ name → GivesStudy files name q → clauses_fault q ≡ Some fault → (status ≡ 3) × Appends d.taken_before d.taken_now (refusal_line q fault)
  over_clauses_at request study name q fault IsRest asked into same g is =
      let a = row_at words d files status call told request asked low in
      let row = subst (λ (n : List ℕ). OverStudy files n (bare_run status) a.0 (λ s. OverClauses s (bare_run status) a.0 (IsRest a.0 s))) same (into a.0 a.1) in
      said a.0 (refusal_line q fault) a.2
      (clauses_row q fault (bare_run status) a.0 (IsRest a.0 q) is (over_study files name (bare_run status) a.0 (λ s. OverClauses s (bare_run status) a.0 (IsRest a.0 s)) q g row))

  clauses_refusal : (request : ExplainRequest) (name : List ℕ) (q : Question) (fault : GroundFault) → request_of words ≡ Some request → AsksClauses request name
      → GivesStudy files name q → clauses_fault q ≡ Some fault → (status ≡ 3) × Appends d.taken_before d.taken_now (refusal_line q fault)
  clauses_refusal (Rules study most workers) name q fault asked same g is =
      over_clauses_at (Rules study most workers) study name q fault (λ text s. IsRuleListWritten s most status text) asked (λ text row. row) same g is
  clauses_refusal (Cores study workers) name q fault asked same g is =
      over_clauses_at (Cores study workers) study name q fault (λ text s. IsMapped s status text) asked (λ text row. row) same g is
  clauses_refusal request name q fault asked same g is = absurd same

pub refusals_explained : ExplainRefusalsAreWritten
refusals_explained words d files status call told low = record {
  no_study = refusal words d files status call told low;
  no_clauses = clauses_refusal words d files status call told low;
}
