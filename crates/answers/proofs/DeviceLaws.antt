-- What a call says and touches, by the devices.
use Rattle.std.proofs.Common.{◌≡◌, ◌∙◌, ◌≢◌, refl, sym, ap, subst, ℕ, ◌≤◌, inl, inr, Bool, true, false, cond, true≢false, List, [], ◌∷◌, take, length, Option, None, Some, arith}
use Rattle.std.specs.Prelude.{◌==◌, Contains, IfSome}
use Rattle.std.specs.List.{list_any}
use Rattle.std.specs.Io.KnownBytes.{Appends}
use Rattle.std.proofs.lemmas.Bool.{cases_lt}
use Rattle.lists.proofs.PlaceLaws.{head_same}
use Rattle.edge.specs.Shelf.{Files, OthersStay}
use Rattle.edge.specs.Told.{AppendsPrefix}
use Rattle.vocab.specs.declared.kinds.Kind.{Kind}
use Rattle.vocab.specs.declared.kinds.Kind.TheVariants.{Sets}
use Rattle.vocab.specs.Size.{IsSize}
use Rattle.vocab.specs.Study.{Question}
use Rattle.clause_text.specs.ReadDimacs.{Formula}
use Rattle.verdicts.specs.declared.verdicts.Verdict.{Verdict}
use Rattle.verdicts.specs.Report.{IsReport}
use Rattle.verdicts.specs.FirstFault.{Confirmed}
use Rattle.verdicts.specs.Words.{answer_text}
use Rattle.words.specs.Words.{Request, Decide, Check, Lrat, Axioms, Adopt, Gain, request_of}
use Rattle.sharp_verdicts.specs.Judged.{Judged, judged_text}
use Rattle.sharp_verdicts.specs.Right.{Pointed}
use Rattle.sharp_laws.specs.Laws.{IsSharpText}
use Rattle.sharp_laws.proofs.ClaimLaws.{claims_hold}
use Rattle.answers.specs.declared.runs.Run.{Run}
use Rattle.answers.specs.Runs.{with_status}
use Rattle.answers.specs.FileLimits.{most_report_bytes}
use Rattle.answers.specs.Studies.{GivesStudy, RefusesStudy, OverStudy, study_refused, study_given}
use Rattle.answers.specs.Grounding.{clauses_fault, OverClauses, clauses_refused, clauses_made}
use Rattle.answers.specs.Lrat.{GivesFormula, IsLratAnswer, formula_refused, proof_judged}
use Rattle.answers.specs.Usage.{usage_line}
use Rattle.answers.specs.Check.{IsJudged, judged, judged_status}
use Rattle.answers.specs.Axioms.{library_text}
use Rattle.answers.specs.Gain.{Gains, other_kind, of_sets}
use Rattle.answers.specs.Lawful.{IsBenchAnswer}
use Rattle.answers.specs.Devices.{Devices}
use Rattle.answers.specs.Call.{IsCall, AreFiles, are_told, none_read, AreUntouched, HasReadCause, at_first, at_second, IsFirstTaken, files_of, statuses_of, touched_at}
use Rattle.answers.specs.Laws.{confirmed_sharp_line, Says, IsConfirmedAs, as_report, as_sharp_text, IsConfirmedRight, ConfirmedHolds, ChecksAreAnswered, UsageIsExact, LibraryIsWritten, RefusedLeavesUnopened, OtherWordsTouchNone}
use Rattle.answers.specs.RowLaws.{WrittenDecisionsHold}
use Rattle.answers.proofs.AmongLemmas.{among_found, none_among, not_alone}
use Rattle.answers.proofs.DecidedLaws.{decided_hold}
use Rattle.answers.proofs.JudgedLaws.{report_checked, sharp_checked, report_answered, sharp_answered, zero_judged}
use Rattle.answers.proofs.OneAnswer.{one_refusal}
use Rattle.answers.proofs.ReportLaws.{reportable, listed, confirmed_report, confirmed_claims, by_status}
use Rattle.answers.proofs.RowLemmas.{some_same, row_of, over_study, not_refused}

module _ (words : List (List ℕ)) (d : Devices) (run : Run) (call : IsCall words d run) (request : Option Request) (asked : request_of words ≡ request) where
  -- the row of what was asked, and what was written of it
  pub written_at : (files : Files) → AreFiles d.told (files_of request) files → run.status ≤ 4 → (text : List ℕ) × IsBenchAnswer request files run text × Appends d.taken_before d.taken_now text
  written_at files are low =
      let a = call.lawful files (subst (λ (r : Option Request). AreFiles d.told (files_of r) files) (sym asked) are) low in
      (a.text, row_of words files run a.text request asked a.lawful, a.written)

  pub front_at : (files : Files) → AreFiles d.told (files_of request) files → run.status ≡ 6
      → (status : ℕ) × (text : List ℕ) × IsBenchAnswer request files (with_status status run) text × AppendsPrefix d.taken_before d.taken_now text
  front_at files are six =
      let a = call.cut_short files (subst (λ (r : Option Request). AreFiles d.told (files_of r) files) (sym asked) are) six in
      (a.status, a.text, row_of words files (with_status a.status run) a.text request asked a.lawful, a.written)

-- ---- words without files

nowhere : Files
nowhere name = None

usage_written : (words : List (List ℕ)) (d : Devices) (run : Run) → IsCall words d run → request_of words ≡ None → run.status ≤ 4 → Says d run 2 usage_line
usage_written words d run call asked low =
    let a = written_at words d run call None asked nowhere (none_read refl) low in
    (a.1.0.ends, subst (λ (t : List ℕ). Appends d.taken_before d.taken_now t) a.1.1 a.2)

usage_front : (words : List (List ℕ)) (d : Devices) (run : Run) → IsCall words d run → request_of words ≡ None → run.status ≡ 6 → AppendsPrefix d.taken_before d.taken_now usage_line
usage_front words d run call asked six =
    let a = front_at words d run call None asked nowhere (none_read refl) six in
    subst (λ (t : List ℕ). AppendsPrefix d.taken_before d.taken_now t) a.2.1 a.3

-- no command has status 2
no_command : (request : Option Request) → list_any (λ s. s == 2) (statuses_of request) ≡ true → request ≡ None
no_command None e = refl
no_command (Some (Decide study workers)) e = absurd (true≢false (sym e))
no_command request e = absurd (true≢false (sym e))

pub usage_exact : UsageIsExact
usage_exact words d run call = record {
  only = λ two. no_command (request_of words) (among_found (statuses_of (request_of words)) 2 (subst (λ (n : ℕ). Contains (statuses_of (request_of words)) n) two call.status));
  written = usage_written words d run call;
  cut_short = usage_front words d run call;
}

library_says : (words : List (List ℕ)) (d : Devices) (run : Run) (kind : Kind) → IsCall words d run → request_of words ≡ Some (Axioms kind) → run.status ≤ 4 → Says d run 0 (library_text kind)
library_says words d run kind call asked low =
    let a = written_at words d run call (Some (Axioms kind)) asked nowhere (none_read refl) low in
    (a.1.0.ends, subst (λ (t : List ℕ). Appends d.taken_before d.taken_now t) a.1.1 a.2)

library_front : (words : List (List ℕ)) (d : Devices) (run : Run) (kind : Kind) → IsCall words d run → request_of words ≡ Some (Axioms kind) → run.status ≡ 6
    → AppendsPrefix d.taken_before d.taken_now (library_text kind)
library_front words d run kind call asked six =
    let a = front_at words d run call (Some (Axioms kind)) asked nowhere (none_read refl) six in
    subst (λ (t : List ℕ). AppendsPrefix d.taken_before d.taken_now t) a.2.1 a.3

pub library_written : LibraryIsWritten
library_written words d run kind call asked = record {
  written = library_says words d run kind call asked;
  cut_short = library_front words d run kind call asked;
}

-- ---- `check`

pub refused_row : (files : Files) (name : List ℕ) (run : Run) (text line : List ℕ) (P : Question → Type 0) → RefusesStudy files name line → OverStudy files name run text P
    → (run.status ≡ 3) × (text ≡ line)
refused_row files name run text line P refuses (study_refused r b) = (b.ends, one_refusal files name text line r refuses)
refused_row files name run text line P refuses (study_given study g p) = absurd (not_refused files name study line g refuses)

module _ (words : List (List ℕ)) (d : Devices) (run : Run) (files : Files) (name report : List ℕ) (workers : ℕ) (call : IsCall words d run) (told : d.told ≡ Some files)
    (asked : request_of words ≡ Some (Check name report workers)) where
  refused_says : run.status ≤ 4 → (text : List ℕ) → RefusesStudy files name text → Says d run 3 text
  refused_says low text refuses =
      let a = written_at words d run call (Some (Check name report workers)) asked files (are_told told) low in
      let row = refused_row files name run a.0 text _ refuses a.1 in
      (row.0, subst (λ (t : List ℕ). Appends d.taken_before d.taken_now t) row.1 a.2)

  judged_says : run.status ≤ 4 → (study : Question) (bytes : List ℕ) → GivesStudy files name study → files report ≡ Some bytes
      → Says d run (judged_status (judged study bytes)) (judged_text (judged study bytes))
  judged_says low study bytes g held =
      let a = written_at words d run call (Some (Check name report workers)) asked files (are_told told) low in
      let j : IsJudged files report study run a.0 = over_study files name run a.0 _ study g a.1 in
      let same : j.bytes ≡ bytes = some_same (files report) j.bytes bytes j.held held in (
        j.ends.ends ∙ ap (λ b. judged_status (judged study b)) same,
        subst (λ (t : List ℕ). Appends d.taken_before d.taken_now t) (j.is ∙ ap (λ b. judged_text (judged study b)) same) a.2,
      )

  right_says : run.status ≤ 4 → (study : Question) (bytes : List ℕ) (verdict : Verdict) → GivesStudy files name study → files report ≡ Some bytes → IsReport study verdict bytes
      → length bytes ≤ most_report_bytes → Says d run 0 (answer_text (Confirmed verdict))
  right_says low study bytes verdict g held right fits =
      subst (λ (a : Judged). Says d run (judged_status a) (judged_text a)) (report_checked study bytes verdict (reportable files name study g) (listed files name study g) right fits) (judged_says low study bytes g held)

  sharp_says : run.status ≤ 4 → (study : Question) (bytes : List ℕ) (v : Pointed) → GivesStudy files name study → files report ≡ Some bytes → IsSharpText study v bytes
      → length bytes ≤ most_report_bytes → Says d run 0 confirmed_sharp_line
  sharp_says low study bytes v g held right fits =
      subst (λ (a : Judged). Says d run (judged_status a) (judged_text a)) (sharp_checked study bytes v (reportable files name study g) (listed files name study g) right fits) (judged_says low study bytes g held)

  -- what is confirmed with a text, and what it claims
  confirmed_as : (study : Question) (bytes text : List ℕ) → IsSize study.size → judged_status (judged study bytes) ≡ 0 → text ≡ judged_text (judged study bytes)
      → Appends d.taken_before d.taken_now text → IsConfirmedAs d study bytes
  confirmed_as study bytes text size zero_is is written = elim (zero_judged (judged study bytes) zero_is) [
    | inl c ↦
        let answered = report_answered study bytes (Confirmed c.0) c.1 in
        as_report c.0 (confirmed_report study bytes c.0 answered).0 (confirmed_claims study bytes size c.0 answered)
        (subst (λ (t : List ℕ). Appends d.taken_before d.taken_now t) (is ∙ ap judged_text c.1) written)
    | inr c ↦
        let right = (sharp_answered study bytes c.0 c.1).0 in
        as_sharp_text c.0 right (claims_hold study size c.0 right.right)
        (subst (λ (t : List ℕ). Appends d.taken_before d.taken_now t) (is ∙ ap judged_text c.1) written)
  ]

  confirmed_row : (text : List ℕ) → run.status ≡ 0 → Appends d.taken_before d.taken_now text → OverStudy files name run text (λ study. IsJudged files report study run text)
      → IsConfirmedRight d files name report
  confirmed_row text zero_is written (study_refused r b) = let three : 0 ≡ 3 = sym zero_is ∙ b.ends in absurd (omega (arith, three))
  confirmed_row text zero_is written (study_given study g j) =
      let confirms : judged_status (judged study j.bytes) ≡ 0 = sym j.ends.ends ∙ zero_is in
      record {
        study = study;
        bytes = j.bytes;
        given = g;
        held = j.held;
        fits = (by_status study j.bytes confirms).1;
        right = confirmed_as study j.bytes text (reportable files name study g).size confirms j.is written;
      }

  confirmed : run.status ≡ 0 → IsConfirmedRight d files name report
  confirmed zero_is =
      let a = written_at words d run call (Some (Check name report workers)) asked files (are_told told) (omega (arith, zero_is)) in
      confirmed_row a.0 zero_is a.2 a.1

pub confirmed_hold : ConfirmedHolds
confirmed_hold words d run files name report workers call told asked zero_is = confirmed words d run files name report workers call told asked zero_is

pub checks_answered : ChecksAreAnswered
checks_answered words d run files name report workers call told asked low = record {
  refused = refused_says words d run files name report workers call told asked low;
  judged = judged_says words d run files name report workers call told asked low;
  right = right_says words d run files name report workers call told asked low;
  sharp = sharp_says words d run files name report workers call told asked low;
}

-- ---- `decide`

pub decisions_hold : WrittenDecisionsHold
decisions_hold words d run files name workers study call told asked g zero_is =
    let a = written_at words d run call (Some (Decide name workers)) asked files (are_told told) (omega (arith, zero_is)) in
    (a.0, decided_hold files name run a.0 study a.1 g zero_is, a.2)

-- ---- files that are not opened

at_three : (words : List (List ℕ)) (d : Devices) (run : Run) → IsCall words d run → run.status ≡ 3 → (first : List ℕ) (others : List (List ℕ))
    → files_of (request_of words) ≡ first ∷ others → OthersStay d.left_before d.left_now first
at_three words d run call three first others named other ne =
    call.untouched other
    (subst (λ (n : ℕ). ¬ Contains (touched_at n (files_of (request_of words))) other) (sym three)
    (subst (λ (names : List (List ℕ)). ¬ Contains (touched_at 3 names) other) (sym named) (not_alone other first ne)))

-- a command over two files ends with status 3 where the first is not taken
over_untaken : (files : Files) (name first : List ℕ) (run : Run) (text : List ℕ) (P : Question → Type 0) → name ≡ first
    → ((study : Question) → GivesStudy files first study → P study → run.status ≡ 3) → OverStudy files name run text P → run.status ≡ 3
over_untaken files name first run text P same given (study_refused r bare) = bare.ends
over_untaken files name first run text P same given (study_given study g p) = given study (subst (λ (n : List ℕ). GivesStudy files n study) same g) p

adopted_untaken : (study : Question) (run : Run) (text : List ℕ) (P : Type 0) → (clauses_fault study ≡ None → ⊥) → OverClauses study run text P → run.status ≡ 3
adopted_untaken study run text P faulty (clauses_refused fault e t bare) = bare.ends
adopted_untaken study run text P faulty (clauses_made none p) = absurd (faulty none)

gained_untaken : (files : Files) (report : List ℕ) (study : Question) (run : Run) (text : List ℕ) → (study.size.kind ≡ Sets → ⊥) → Gains files report study run text → run.status ≡ 3
gained_untaken files report study run text other (other_kind ne t bare) = bare.ends
gained_untaken files report study run text other (of_sets is said) = absurd (other is)

confirmed_untaken : (files : Files) (name proof first : List ℕ) (run : Run) (text : List ℕ) → name ≡ first → (((formula : Formula) × GivesFormula files first formula) → ⊥)
    → IsLratAnswer files name proof run text → run.status ≡ 3
confirmed_untaken files name proof first run text same untaken (formula_refused r bare) = bare.ends
confirmed_untaken files name proof first run text same untaken (proof_judged formula bytes g held bare is) =
    absurd (untaken (formula, subst (λ (n : List ℕ). GivesFormula files n formula) same g))

three_untaken : (request : Option Request) (files : Files) (first second : List ℕ) (run : Run) (text : List ℕ) → files_of request ≡ first ∷ second ∷ []
    → (IsFirstTaken request files first → ⊥) → IsBenchAnswer request files run text → run.status ≡ 3
three_untaken (Some (Check study report workers)) files first second run text two untaken row =
    over_untaken files study first run text _ (head_same study first _ _ two) (λ s g p. absurd (untaken (s, g))) row
three_untaken (Some (Lrat cnf proof)) files first second run text two untaken row =
    confirmed_untaken files cnf proof first run text (head_same cnf first _ _ two) untaken row
three_untaken (Some (Adopt study proof workers)) files first second run text two untaken row =
    over_untaken files study first run text _ (head_same study first _ _ two) (λ s g p. adopted_untaken s run text _ (λ none. untaken (s, g, none)) p) row
three_untaken (Some (Gain study report)) files first second run text two untaken row =
    over_untaken files study first run text _ (head_same study first _ _ two) (λ s g p. gained_untaken files report s run text (λ is. untaken (s, g, is)) p) row
three_untaken request files first second run text two untaken row = absurd (cc)

module _ (words : List (List ℕ)) (d : Devices) (run : Run) (files : Files) (first second : List ℕ) (call : IsCall words d run) (told : d.told ≡ Some files)
    (two : files_of (request_of words) ≡ first ∷ second ∷ []) (untaken : IsFirstTaken (request_of words) files first → ⊥) where
  -- a file that is not touched at status 3
  kept_at : (status : ℕ) → status ≡ 3 → AreUntouched status (files_of (request_of words)) d.left_before d.left_now → OthersStay d.left_before d.left_now first
  kept_at status three untouched other ne =
      let kept : AreUntouched 3 (first ∷ second ∷ []) d.left_before d.left_now =
      subst (λ (names : List (List ℕ)). AreUntouched 3 names d.left_before d.left_now) two (subst (λ (s : ℕ). AreUntouched s (files_of (request_of words)) d.left_before d.left_now) three untouched) in
      kept other (not_alone other first ne)

  below_five : run.status ≤ 4 → OthersStay d.left_before d.left_now first
  below_five low =
      let a = call.lawful files (are_told told) low in
      kept_at run.status (three_untaken (request_of words) files first second run a.text two untaken a.lawful) call.untouched

  at_six : run.status ≡ 6 → OthersStay d.left_before d.left_now first
  at_six six =
      let a = call.cut_short files (are_told told) six in
      kept_at a.status (three_untaken (request_of words) files first second (with_status a.status run) a.text two untaken a.lawful) a.untouched

  -- the cause of a fault is not at the second file, since the first is not taken
  by_cause : (names : List (List ℕ)) → names ≡ first ∷ second ∷ [] → HasReadCause (request_of words) d.told d.left_before d.left_now d.faults_before d.faults_now names
      → OthersStay d.left_before d.left_now first
  by_cause names is (at_first name others named rose stay) = subst (λ (n : List ℕ). OthersStay d.left_before d.left_now n) (head_same name first others (second ∷ []) (sym named ∙ is)) stay
  by_cause names is (at_second name other named rose taken) =
      let same : name ≡ first = head_same name first (other ∷ []) (second ∷ []) (sym named ∙ is) in
      let of_request : IsFirstTaken (request_of words) files name = subst (λ (o : Option Files). IfSome o (λ f. IsFirstTaken (request_of words) f name)) told taken in
      absurd (untaken (subst (λ (n : List ℕ). IsFirstTaken (request_of words) files n) same of_request))

  kept : run.status ≤ 6 → OthersStay d.left_before d.left_now first
  kept few = elim (cases_lt run.status 5) [
    | inl low ↦ below_five (omega (arith, low))
    | inr high ↦ elim (cases_lt run.status 6) [
      | inl five ↦ by_cause (files_of (request_of words)) two (call.read_fault (omega (arith, five, high)))
      | inr more ↦ at_six (omega (arith, few, more))
    ]
  ]

pub left_unopened : RefusedLeavesUnopened
left_unopened words d run call = record {
  at_three = at_three words d run call;
  at_pair = λ files first second told two untaken few. kept words d run files first second call told two untaken few;
}

pub none_of_none : (name : List ℕ) (b : Bool) → ¬ Contains (cond b (take 1 []) []) name
none_of_none name true = none_among name
none_of_none name false = none_among name

pub none_touched : OtherWordsTouchNone
none_touched words d run call none name = (
  call.untouched name (subst (λ (names : List (List ℕ)). ¬ Contains (touched_at run.status names) name) (sym none) (none_of_none name (run.status == 3))),
  call.uncounted none name,
)
