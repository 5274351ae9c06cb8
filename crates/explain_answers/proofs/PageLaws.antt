-- A page is written exactly where `check` confirms.
use Rattle.std.proofs.Common.{◌≡◌, ◌≢◌, ◌∙◌, refl, sym, ap, subst, ℕ, ◌≤◌, List, length, Option, Some, Ok, Err, inl, inr, arith}
use Rattle.std.specs.Io.KnownBytes.{Appends}
use Rattle.edge.specs.Shelf.{Files}
use Rattle.vocab.specs.Study.{Question}
use Rattle.study.proofs.OneAnswer.{studies_once}
use Rattle.study.specs.Reading.{IsStudyOf}
use Rattle.verdicts.specs.declared.verdicts.Verdict.{Verdict}
use Rattle.verdicts.specs.Report.{IsReport}
use Rattle.verdicts.specs.FirstFault.{Confirmed}
use Rattle.verdicts.proofs.ClaimLaws.{within_limit}
use Rattle.verdicts.proofs.JudgeLaws.{judge_sound}
use Rattle.sharp_verdicts.specs.Judged.{Judged, AsReport, AsSharp, judged_text}
use Rattle.sharp_verdicts.specs.Right.{Pointed}
use Rattle.sharp_laws.specs.Laws.{IsSharpText}
use Rattle.answers.specs.Call.{AreFiles, are_told}
use Rattle.answers.specs.Check.{judged, judged_status, IsChecked}
use Rattle.answers.specs.FileLimits.{most_report_bytes}
use Rattle.answers.specs.Studies.{GivesStudy, RefusesStudy, too_long, no_study, study_refused, study_given}
use Rattle.answers.proofs.JudgedLaws.{report_answered, report_checked, sharp_answered, sharp_checked}
use Rattle.answers.proofs.ReportLaws.{reportable, listed}
use Rattle.answers.proofs.RowLemmas.{some_same}
use Rattle.explain_words.specs.Words.{ExplainRequest, request_of}
use Rattle.explain_answers.specs.Page.{IsPageText, IsSharpPageText}
use Rattle.explain_answers.specs.Story.{IsSaid, IsStoryAnswer, IsToldOf, bare_run}
use Rattle.explain_answers.specs.Lawful.{IsExplanation}
use Rattle.explain_answers.specs.Call.{explain_files}
use Rattle.explain_answers.specs.Laws.{IsPageOf, IsPageExact, PagesAreExact, PagesAreWritten}

-- ---- a file gives one study

module _ (files : Files) (name : List ℕ) (study : Question) (g : GivesStudy files name study) where
  same_bytes : (bytes : List ℕ) → files name ≡ Some bytes → bytes ≡ g.bytes
  same_bytes bytes held = some_same (files name) bytes g.bytes held g.holds.held

  pub not_refused : (text : List ℕ) → RefusesStudy files name text → ⊥
  not_refused text (too_long h e) =
      let same : length h.bytes ≡ length g.bytes = ap length (same_bytes h.bytes h.held) in
      let long = h.long in
      let fits = g.holds.fits in
      omega (arith, same, long, fits)
  not_refused text (no_study bytes fault h read e) =
      let same = studies_once g.bytes (Err fault) (Ok study) (subst (λ (b : List ℕ). IsStudyOf b (Err fault)) (same_bytes bytes h.held) read) g.read in absurd (cc)

  pub one_study : (s : Question) → GivesStudy files name s → s ≡ study
  one_study s h =
      let same = studies_once g.bytes (Ok s) (Ok study) (subst (λ (b : List ℕ). IsStudyOf b (Ok s)) (same_bytes h.bytes h.holds.held) h.read) g.read in cc

  pub told_of : (report text : List ℕ) (status : ℕ) → IsStoryAnswer files name report status text → IsToldOf files name report study status text
  told_of report text status (study_refused r bare) = absurd (not_refused text r)
  told_of report text status (study_given s h told) = subst (λ (q : Question). IsToldOf files name report q status text) (one_study s h) told

-- ---- what is told of the bytes

module _ (study : Question) (name report bytes : List ℕ) where
  confirmed_page : (a : Judged) (text : List ℕ) → judged study bytes ≡ a → judged_status a ≡ 0 → IsSaid study name report a text → IsPageOf study name report bytes text
  confirmed_page (AsReport (Confirmed v)) text e zero is =
      let c = (within_limit most_report_bytes study bytes v).0 (report_answered study bytes (Confirmed v) e) in
      inl (record { verdict = v; right = judge_sound study bytes v c.1; fits = c.0; page = is })
  confirmed_page (AsSharp (Confirmed v)) text e zero is =
      let c = sharp_answered study bytes v e in inr (record { verdict = v; right = c.0; fits = c.1; page = is })
  confirmed_page a text e zero is = absurd (omega (arith, zero))

  refused_text : (a : Judged) (status : ℕ) (text : List ℕ) → status ≡ judged_status a → status ≢ 0 → IsSaid study name report a text → text ≡ judged_text a
  refused_text (AsReport (Confirmed v)) status text e other is = absurd (other e)
  refused_text (AsSharp (Confirmed v)) status text e other is = absurd (other e)
  refused_text a status text e other is = is

module _ (files : Files) (name report bytes : List ℕ) (study : Question) (g : GivesStudy files name study) (held : files report ≡ Some bytes) where
  module _ (status : ℕ) (text : List ℕ) (told : IsToldOf files name report study status text) where
    same : told.bytes ≡ bytes
    same = some_same (files report) told.bytes bytes told.held held

    ends : status ≡ judged_status (judged study bytes)
    ends = told.ends ∙ ap (λ (b : List ℕ). judged_status (judged study b)) same

    is : IsSaid study name report (judged study bytes) text
    is = subst (λ (b : List ℕ). IsSaid study name report (judged study b) text) same told.said

    all_right : (verdict : Verdict) → IsReport study verdict bytes → length bytes ≤ most_report_bytes → (status ≡ 0) × IsPageText study name report verdict text
    all_right verdict right fits =
        let e = report_checked study bytes verdict (reportable files name study g) (listed files name study g) right fits in
        (ends ∙ ap judged_status e, subst (λ (a : Judged). IsSaid study name report a text) e is)

    all_sharp : (v : Pointed) → IsSharpText study v bytes → length bytes ≤ most_report_bytes → (status ≡ 0) × IsSharpPageText study name report v text
    all_sharp v right fits =
        let e = sharp_checked study bytes v (reportable files name study g) (listed files name study g) right fits in
        (ends ∙ ap judged_status e, subst (λ (a : Judged). IsSaid study name report a text) e is)

    checked : status ≢ 0 → IsChecked files name report (bare_run status) text
    checked other = study_given study g (record {
      bytes = bytes;
      held = held;
      ends = record { ends = ends; no_verdict = refl; no_logs = refl; no_sharp = refl };
      is = refused_text study name report bytes (judged study bytes) status text ends other is;
    })

    exact : IsPageExact files name report study bytes status text
    exact = record {
      right = λ zero. confirmed_page study name report bytes (judged study bytes) text refl (sym ends ∙ zero) is;
      all = all_right;
      all_sharp = all_sharp;
      refused = checked;
    }

pub pages_exact : PagesAreExact
pages_exact words files status workers text name report bytes study lawful asked g held =
    let row : IsStoryAnswer files name report status text = subst (λ (r : Option ExplainRequest). IsExplanation r files status text) asked lawful in
    exact files name report bytes study g held status text (told_of files name study g report text status row)

pub pages_written : PagesAreWritten
pages_written words d files status workers name report bytes study call told asked g held = record { right = right; all = all; all_sharp = all_sharp }
  where
    there : status ≤ 4 → (text : List ℕ) × IsPageExact files name report study bytes status text × Appends d.taken_before d.taken_now text
    there low =
        let names : AreFiles d.told (explain_files (request_of words)) files = are_told told in
        let a = call.lawful files names low in
        (a.text, pages_exact words files status workers a.text name report bytes study a.lawful asked g held, a.written)

    right : status ≡ 0 → (text : List ℕ) × IsPageOf study name report bytes text × Appends d.taken_before d.taken_now text
    right zero = let t = there (omega (arith, zero)) in (t.0, t.1.right zero, t.2)

    all : status ≤ 4 → (verdict : Verdict) → IsReport study verdict bytes → length bytes ≤ most_report_bytes → (status ≡ 0) × (text : List ℕ) × IsPageText study name report verdict text × Appends d.taken_before d.taken_now text
    all low verdict report_is fits =
        let t = there low in
        let row = t.1.all verdict report_is fits in
        (row.0, t.0, row.1, t.2)

    all_sharp : status ≤ 4 → (v : Pointed) → IsSharpText study v bytes → length bytes ≤ most_report_bytes → (status ≡ 0) × (text : List ℕ) × IsSharpPageText study name report v text × Appends d.taken_before d.taken_now text
    all_sharp low v text_is fits =
        let t = there low in
        let row = t.1.all_sharp v text_is fits in
        (row.0, t.0, row.1, t.2)
