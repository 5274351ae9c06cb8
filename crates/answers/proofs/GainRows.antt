-- What `gain` says of a rule.
use Rattle.std.proofs.Common.{◌≡◌, ◌≢◌, ◌∙◌, refl, sym, ap, subst, ℕ, ◌≤◌, true, true≢false, List, length, get_or, codes, Option, None, Some, arith}
use Rattle.std.specs.Prelude.{◌↔◌, IsTrue, MatchOption}
use Rattle.std.specs.Io.KnownBytes.{Appends}
use Rattle.edge.specs.Shelf.{Files}
use Rattle.vocab.specs.declared.kinds.Kind.TheVariants.{Sets}
use Rattle.vocab.specs.Size.{Extent}
use Rattle.vocab.specs.Study.{Question}
use Rattle.verdicts.specs.declared.verdicts.Verdict.{Verdict}
use Rattle.verdicts.specs.declared.verdicts.Verdict.TheVariants.{Possible}
use Rattle.verdicts.specs.declared.refusals.Refusal.{Refusal}
use Rattle.verdicts.specs.Report.{IsReport}
use Rattle.verdicts.specs.FirstFault.{Judgement, Confirmed}
use Rattle.choice_sets.specs.declared.gains.Manipulation.{Manipulation}
use Rattle.choice_sets.specs.Gains.{first_gain, gains}
use Rattle.choice_sets.specs.Laws.{HasNoGain, IsManipulation}
use Rattle.choice_sets.proofs.FoundLaws.{are_found}
use Rattle.words.specs.Words.{Gain, request_of}
use Rattle.sharp_verdicts.specs.Judged.{has_sharp_title}
use Rattle.answers.specs.declared.runs.Run.{Run}
use Rattle.answers.specs.FileLimits.{most_report_bytes}
use Rattle.answers.specs.Studies.{GivesStudy, RefusesStudy}
use Rattle.answers.specs.Check.{judgement, judgement_status}
use Rattle.answers.specs.Gain.{Gains, gain_text, of_sets, other_kind, said_of_gain}
use Rattle.answers.specs.Lawful.{IsBenchAnswer}
use Rattle.answers.specs.Devices.{Devices}
use Rattle.answers.specs.Call.{IsCall, are_told}
use Rattle.answers.specs.Laws.{Says}
use Rattle.answers.specs.GainLaws.{GainsAreAnswered, NoneIsNoGain}
use Rattle.answers.proofs.DeviceLaws.{refused_row, written_at}
use Rattle.answers.proofs.FitLemmas.{right_judged}
use Rattle.answers.proofs.JudgedLaws.{titled_is_faulty}
use Rattle.answers.proofs.ReportLaws.{listed, reportable}
use Rattle.answers.proofs.RowLemmas.{over_study, row_of, some_same}

module _ (size : Extent) (table : List ℕ) where
  -- of a rule without a gain it says `none`, and a gain begins otherwise
  none_said : (o : Option Manipulation) → MatchOption o (HasNoGain size table) (λ m. IsManipulation size m × IsTrue (gains size table m))
      → (gain_text size table o ≡ codes "none\n") ↔ HasNoGain size table
  none_said None h = (λ e. h, λ none. refl)
  none_said (Some m) h = (
    λ e. absurd (let wrong : 118 ≡ 110 = ap (λ text. get_or text 0 0) e in omega (arith, wrong)),
    λ none. absurd (true≢false (sym h.1 ∙ none m h.0)),
  )

-- whatever is said, it is what is said of the rule
said_is : (files : Files) (report bytes text table : List ℕ) (study : Question) (run : Run) → study.size.kind ≡ Sets → files report ≡ Some bytes
    → judgement study bytes ≡ Confirmed (Possible table) → Gains files report study run text → text ≡ gain_text study.size table (first_gain study.size table)
said_is files report bytes text table study run sets held is (other_kind other t bare) = absurd (other sets)
said_is files report bytes text table study run sets held is (of_sets same said) =
    said.is ∙ ap (λ b. said_of_gain study (judgement study b)) (some_same (files report) said.bytes bytes said.held held) ∙ ap (said_of_gain study) is

pub none_no_gain : NoneIsNoGain
none_no_gain words files run text name report bytes table study lawful asked given sets held is =
    let row = row_of words files run text (Some (Gain name report)) asked lawful in
    let same = said_is files report bytes text table study run sets held is (over_study files name run text _ study given row) in
    let said = none_said study.size table (first_gain study.size table) (are_found study.size table) in
    (λ e. said.0 (sym same ∙ e), λ none. same ∙ said.1 none)

-- ---- row by row

other_row : (files : Files) (report : List ℕ) (study : Question) (run : Run) (text : List ℕ) → study.size.kind ≢ Sets → Gains files report study run text
    → (run.status ≡ 3) × (text ≡ codes "study: kind not sets\n")
other_row files report study run text other (other_kind ne t bare) = (bare.ends, t)
other_row files report study run text other (of_sets is said) = absurd (other is)

judged_row : (files : Files) (report bytes : List ℕ) (study : Question) (run : Run) (text : List ℕ) → study.size.kind ≡ Sets → files report ≡ Some bytes
    → Gains files report study run text → (run.status ≡ judgement_status (judgement study bytes)) × (text ≡ said_of_gain study (judgement study bytes))
judged_row files report bytes study run text sets held (other_kind other t bare) = absurd (other sets)
judged_row files report bytes study run text sets held (of_sets same said) =
    let is : said.bytes ≡ bytes = some_same (files report) said.bytes bytes said.held held in
    (said.ends.ends ∙ ap (λ b. judgement_status (judgement study b)) is, said.is ∙ ap (λ b. said_of_gain study (judgement study b)) is)

module _ (words : List (List ℕ)) (d : Devices) (run : Run) (files : Files) (name report : List ℕ) (call : IsCall words d run) (told : d.told ≡ Some files)
    (asked : request_of words ≡ Some (Gain name report)) (low : run.status ≤ 4) where
  row_there : (text : List ℕ) × IsBenchAnswer (Some (Gain name report)) files run text × Appends d.taken_before d.taken_now text
  row_there = written_at words d run call (Some (Gain name report)) asked files (are_told told) low

  -- a row that gives a status and a text was said
  said : (status : ℕ) (text : List ℕ) → (run.status ≡ status) × (row_there.0 ≡ text) → Says d run status text
  said status text row = (row.0, subst (λ (t : List ℕ). Appends d.taken_before d.taken_now t) row.1 row_there.2)

  refused_says : (text : List ℕ) → RefusesStudy files name text → Says d run 3 text
  refused_says text refuses = said 3 text (refused_row files name run row_there.0 text _ refuses row_there.1)

  other_says : (study : Question) → GivesStudy files name study → study.size.kind ≢ Sets → Says d run 3 (codes "study: kind not sets\n")
  other_says study g other = said 3 _ (other_row files report study run row_there.0 other (over_study files name run row_there.0 _ study g row_there.1))

  judged_says : (study : Question) (bytes : List ℕ) → GivesStudy files name study → study.size.kind ≡ Sets → files report ≡ Some bytes
      → Says d run (judgement_status (judgement study bytes)) (said_of_gain study (judgement study bytes))
  judged_says study bytes g sets held =
      said _ _ (judged_row files report bytes study run row_there.0 sets held (over_study files name run row_there.0 _ study g row_there.1))

  right_says : (study : Question) (bytes : List ℕ) (verdict : Verdict) → GivesStudy files name study → study.size.kind ≡ Sets → files report ≡ Some bytes
      → IsReport study verdict bytes → length bytes ≤ most_report_bytes → Says d run 0 (said_of_gain study (Confirmed verdict))
  right_says study bytes verdict g sets held right fits =
      subst (λ (a : Judgement Verdict Refusal). Says d run (judgement_status a) (said_of_gain study a))
      (right_judged study bytes verdict (reportable files name study g) (listed files name study g) right fits) (judged_says study bytes g sets held)

  sharp_says : (study : Question) (bytes : List ℕ) → GivesStudy files name study → study.size.kind ≡ Sets → files report ≡ Some bytes → has_sharp_title bytes ≡ true
      → Says d run 1 (codes "refused line 1: form\n")
  sharp_says study bytes g sets held titled =
      subst (λ (a : Judgement Verdict Refusal). Says d run (judgement_status a) (said_of_gain study a)) (titled_is_faulty study bytes titled) (judged_says study bytes g sets held)

pub gains_answered : GainsAreAnswered
gains_answered words d run files name report call told asked low = record {
  refused = refused_says words d run files name report call told asked low;
  other_kind = other_says words d run files name report call told asked low;
  judged = judged_says words d run files name report call told asked low;
  right = right_says words d run files name report call told asked low;
  sharp = sharp_says words d run files name report call told asked low;
}
