-- What is told of the file of a study, row by row.
use Rattle.std.proofs.Common.{◌≡◌, ◌∙◌, refl, sym, ap, subst, ℕ, List, length, Option, None, Some, Ok, Err, arith}
use Rattle.std.specs.Prelude.{◌++◌, codes}
use Rattle.std.specs.Io.KnownBytes.{Appends}
use Rattle.edge.specs.Shelf.{Files}
use Rattle.vocab.specs.Study.{Question}
use Rattle.study.proofs.OneAnswer.{studies_once}
use Rattle.study.specs.declared.faults.StudyFault.{StudyFault}
use Rattle.study.specs.Reading.{IsStudyOf}
use Rattle.clause_form.specs.declared.refusals.GroundFault.{GroundFault}
use Rattle.study_help.specs.Help.{IsHelp}
use Rattle.answers.specs.Call.{AreFiles, are_told}
use Rattle.answers.specs.FileLimits.{most_study_bytes, HasFile, HoldsTooMany}
use Rattle.answers.specs.Grounding.{clauses_fault, refusal_line, OverClauses, clauses_refused, clauses_made}
use Rattle.answers.specs.StudyLines.{study_line}
use Rattle.answers.specs.Studies.{GivesStudy, too_long, no_study}
use Rattle.answers.proofs.RowLemmas.{some_same}
use Rattle.explain_words.specs.Words.{ExplainRequest, request_of}
use Rattle.explain_answers.specs.Look.{IsLook, IsLooked, long, refused, told, within}
use Rattle.explain_answers.specs.Story.{bare_run}
use Rattle.explain_answers.specs.Lawful.{IsExplanation}
use Rattle.explain_answers.specs.Call.{explain_files}
use Rattle.explain_answers.specs.Laws.{IsLookExact, LooksAreExact, LooksAreWritten}
use Rattle.explain_answers.proofs.ClauseLaws.{made_of}
use Rattle.explain_answers.proofs.PageLaws.{not_refused, one_study}

-- ---- clauses that are refused

refused_of : (study : Question) (status : ℕ) (text : List ℕ) (IsRest : Type 0) (fault : GroundFault) → clauses_fault study ≡ Some fault
    → OverClauses study (bare_run status) text IsRest → (status ≡ 3) × (text ≡ refusal_line study fault)
refused_of study status text IsRest fault e (clauses_refused other is line bare) =
    let both : Some other ≡ Some fault = sym is ∙ e in
    let same : other ≡ fault = cc in
    (bare.ends, line ∙ ap (refusal_line study) same)
refused_of study status text IsRest fault e (clauses_made none rest) = let no : None ≡ Some fault = sym none ∙ e in absurd (cc)

module _ (files : Files) (name : List ℕ) where
  -- ---- what the file holds

  not_too_long : (h : HoldsTooMany files most_study_bytes name) (bytes : List ℕ) → HasFile files most_study_bytes name bytes → ⊥
  not_too_long h bytes holds =
      let same : length h.bytes ≡ length bytes = ap length (some_same (files name) h.bytes bytes h.held holds.held) in
      let long = h.long in
      let fits = holds.fits in
      omega (arith, same, long, fits)

  one_fault : (bytes bytes' : List ℕ) (fault fault' : StudyFault) → bytes' ≡ bytes → IsStudyOf bytes (Err fault) → IsStudyOf bytes' (Err fault') → fault' ≡ fault
  one_fault bytes bytes' fault fault' same read read' =
      let once = studies_once bytes (Err fault') (Err fault) (subst (λ (b : List ℕ). IsStudyOf b (Err fault')) same read') read in cc

  not_given : (bytes bytes' : List ℕ) (fault : StudyFault) (study : Question) → bytes' ≡ bytes → IsStudyOf bytes (Err fault) → IsStudyOf bytes' (Ok study) → ⊥
  not_given bytes bytes' fault study same read read' =
      let once = studies_once bytes (Ok study) (Err fault) (subst (λ (b : List ℕ). IsStudyOf b (Ok study)) same read') read in absurd (cc)

  -- ---- the row

  module _ (status : ℕ) (text : List ℕ) where
    -- the rest holds of the study that the file gives
    over_given : (study : Question) → GivesStudy files name study → IsLook files name status text → OverClauses study (bare_run status) text (IsLooked study status text)
    over_given study g (long h is ends) = absurd (not_refused files name study g (codes "study: too long\n") (too_long h refl))
    over_given study g (within bytes holds (refused fault help bad helps is ends)) = absurd (not_refused files name study g _ (no_study bytes fault holds bad refl))
    over_given study g (within bytes holds (told s gives row)) =
        subst (λ (q : Question). OverClauses q (bare_run status) text (IsLooked q status text))
        (one_study files name study g s (record { bytes = bytes; holds = holds; read = gives })) row

    helped : (bytes : List ℕ) (fault : StudyFault) → HasFile files most_study_bytes name bytes → IsStudyOf bytes (Err fault) → IsLook files name status text
        → (status ≡ 3) × (help : List ℕ) × IsHelp bytes fault help × (text ≡ study_line fault ++ help)
    helped bytes fault holds read (long h is ends) = absurd (not_too_long h bytes holds)
    helped bytes fault holds read (within bytes' holds' (refused fault' help bad helps is ends)) =
        let same : bytes' ≡ bytes = some_same (files name) bytes' bytes holds'.held holds.held in
        let faults : fault' ≡ fault = one_fault bytes bytes' fault fault' same read bad in
        let helps_with : IsHelp bytes fault' help = subst (λ (b : List ℕ). IsHelp b fault' help) same helps in
        (ends, help, subst (λ (f : StudyFault). IsHelp bytes f help) faults helps_with, is ∙ ap (λ (f : StudyFault). study_line f ++ help) faults)
    helped bytes fault holds read (within bytes' holds' (told s gives row)) =
        absurd (not_given bytes bytes' fault s (some_same (files name) bytes' bytes holds'.held holds.held) read gives)

    longer : HoldsTooMany files most_study_bytes name → IsLook files name status text → (status ≡ 3) × (text ≡ codes "study: too long\n")
    longer h (long h' is ends) = (ends, is)
    longer h (within bytes holds said) = absurd (not_too_long h bytes holds)

    exact : IsLook files name status text → IsLookExact files name status text
    exact row = record {
      given = λ study g none. made_of study status text (IsLooked study status text) none (over_given study g row);
      over = λ study fault g e. refused_of study status text (IsLooked study status text) fault e (over_given study g row);
      refused = λ bytes fault holds read. helped bytes fault holds read row;
      long = λ h. longer h row;
    }

pub looks_exact : LooksAreExact
looks_exact words files status workers text name lawful asked =
    exact files name status text (subst (λ (r : Option ExplainRequest). IsExplanation r files status text) asked lawful)

pub looks_written : LooksAreWritten
looks_written words d files status workers name call told_files asked low =
    let names : AreFiles d.told (explain_files (request_of words)) files = are_told told_files in
    let a = call.lawful files names low in
    let row = looks_exact words files status workers a.text name a.lawful asked in
    record {
      given = λ study g none. let is = row.given study g none in (is.ends, subst (λ (t : List ℕ). Appends d.taken_before d.taken_now t) is.lines a.written);
      over = λ study fault g e. let is = row.over study fault g e in (is.0, subst (λ (t : List ℕ). Appends d.taken_before d.taken_now t) is.1 a.written);
      refused = λ bytes fault holds read.
          let is = row.refused bytes fault holds read in (is.0, is.1, is.2, subst (λ (t : List ℕ). Appends d.taken_before d.taken_now t) is.3 a.written);
      long = λ h. let is = row.long h in (is.0, subst (λ (t : List ℕ). Appends d.taken_before d.taken_now t) is.1 a.written);
    }
