-- What a sharp text in a file is worth.
use Rattle.std.proofs.Common.{◌≡◌, ◌≢◌, refl, sym, ap, ◌∙◌, subst, ℕ, Bool, false, List, length, Option, Some, None, Result, Ok, Err}
use Rattle.std.specs.Prelude.{IfOk}
use Rattle.edge.specs.Shelf.{Files}
use Rattle.vocab.specs.Size.{IsSize}
use Rattle.vocab.specs.Study.{Question}
use Rattle.verdicts.specs.FirstFault.{Told, Good, Refused, Judgement, Confirmed, Faulty, TooLong, beyond}
use Rattle.verdicts.specs.Judge.{pieces, front}
use Rattle.sharp_verdicts.specs.declared.refusals.SharpRefusal.{SharpRefusal}
use Rattle.sharp_verdicts.specs.Right.{Pointed}
use Rattle.sharp_verdicts.specs.SharpPlaces.{SharpStanding}
use Rattle.sharp_verdicts.specs.SharpJudge.{sharp_judge, sharp_conclude, sharp_answer, sharp_answer_within}
use Rattle.sharp_laws.proofs.ClaimLaws.{confirmed_hold}
use Rattle.sharp_laws.proofs.FaultLaws.{within_limit}
use Rattle.sharp_laws.proofs.JudgeLaws.{judge_sound}
use Rattle.sharp_report.specs.declared.faults.SharpFault.{SharpFault}
use Rattle.sharp_report.specs.declared.faults.SharpFault.TheVariants.{Line as AtLine}
use Rattle.sharp_report.specs.declared.progress.SharpProgress.{SharpProgress}
use Rattle.sharp_report.specs.SharpAnswers.{SharpConcludes}
use Rattle.sharp_report.specs.SharpStands.{SharpStandsAs, SharpStandsFor}
use Rattle.report_files.specs.declared.files.Ending.{Ending}
use Rattle.report_files.specs.declared.files.Ending.TheVariants as ending
use Rattle.report_files.specs.declared.worths.SharpWorth.{SharpWorth}
use Rattle.report_files.specs.declared.worths.SharpWorth.TheVariants as worth
use Rattle.report_files.specs.Files.{IsEndedAt, IsSharpWorth, IsSharpIn, SharpWorthHolds, most_verdict_bytes}
use Rattle.report_files.proofs.EndedLemmas.{whole_within, faulty_within, beyond_within}
use Rattle.report_files.proofs.SharpLineLemmas.{sharp_refused_more}

-- ---- what is answered

abbrev sharp_confirms : Result (Unit {0}) SharpFault
sharp_confirms = Ok tt

abbrev sharp_refuses : SharpFault → Result (Unit {0}) SharpFault
sharp_refuses fault = Err fault

pub sharp_concludes_ok : (a : Judgement Pointed SharpRefusal) → SharpConcludes a (Ok tt) → IsSharpWorth a worth.Confirmed
sharp_concludes_ok (Confirmed v) h = refl
sharp_concludes_ok (Faulty n word) h = absurd (cc)
sharp_concludes_ok TooLong h = absurd h

pub sharp_concludes_line : (a : Judgement Pointed SharpRefusal) (m : ℕ) (word : SharpRefusal) → SharpConcludes a (Err (AtLine m word)) → IsSharpWorth a (worth.Faulty m word)
sharp_concludes_line (Confirmed v) m word h = let wrong : sharp_refuses (AtLine m word) ≡ sharp_confirms = h in absurd (cc)
sharp_concludes_line (Faulty n w) m word h = let one : m ≡ n = cc in let two : word ≡ w = cc in ap (λ k. worth.Faulty k word) one ∙ ap (worth.Faulty n) two
sharp_concludes_line TooLong m word h = absurd h

-- the sharp verdict that is confirmed
sharp_concluded : (a : Judgement Pointed SharpRefusal) → SharpConcludes a (Ok tt) → (v : Pointed) × (a ≡ Confirmed v)
sharp_concluded (Confirmed v) h = (v, refl)
sharp_concluded (Faulty n word) h = absurd (cc)
sharp_concluded TooLong h = absurd h

-- and that of a worth
sharp_worth_verdict : (a : Judgement Pointed SharpRefusal) → IsSharpWorth a worth.Confirmed → (v : Pointed) × (a ≡ Confirmed v)
sharp_worth_verdict (Confirmed v) h = (v, refl)
sharp_worth_verdict (Faulty n word) h = absurd (cc)
sharp_worth_verdict TooLong h = absurd (cc)

-- ---- what was read

module _ (study : Question) where
  -- all was read
  pub sharp_whole_worth : (e : Ending) (known left : Option (List ℕ)) (faulty : Bool) (bytes held : List ℕ) (result : Result (Unit {0}) SharpFault) (w : SharpWorth)
      → e ≡ ending.Whole → IsEndedAt e known left faulty bytes → known ≡ Some held
      → SharpConcludes (sharp_answer study bytes) result → ((a : Judgement Pointed SharpRefusal) → SharpConcludes a result → IsSharpWorth a w) → IsSharpWorth (sharp_answer_within most_verdict_bytes study held) w
  sharp_whole_worth e known left faulty bytes held result w same ended k concluded worth_of =
      let whole : IsEndedAt ending.Whole known left faulty bytes = subst (λ x. IsEndedAt x known left faulty bytes) same ended in
      subst (λ a. IsSharpWorth a w) (sym (whole_within (sharp_conclude study) (sharp_judge study) known left faulty bytes held whole k)) (worth_of (sharp_answer study bytes) concluded)

  -- a line is faulty
  pub sharp_faulty_worth : (p : SharpProgress) (e : Ending) (known left : Option (List ℕ)) (faulty : Bool) (bytes held : List ℕ) (fault : SharpFault) (w : SharpWorth)
      → p.fault ≡ Some fault → IsEndedAt e known left faulty bytes → known ≡ Some held → SharpStandsFor study p (front (pieces bytes))
      → ((a : Judgement Pointed SharpRefusal) → SharpConcludes a (Err fault) → IsSharpWorth a w) → IsSharpWorth (sharp_answer_within most_verdict_bytes study held) w
  sharp_faulty_worth p e known left faulty bytes held fault w f ended k stands worth_of = by_told (sharp_judge study (front (pieces bytes))) refl stands.1
    where
      by_told : (told : Told SharpStanding SharpRefusal) → sharp_judge study (front (pieces bytes)) ≡ told → SharpStandsAs study (length (front (pieces bytes))) p.fault p.judging told → IsSharpWorth (sharp_answer_within most_verdict_bytes study held) w
      by_told (Good s) told h = let wrong : Some fault ≡ None = sym f ∙ h.0 in absurd (cc)
      by_told (Refused m word) told h =
          let same : Some fault ≡ Some (AtLine m word) = sym f ∙ h in
          let fault_is : fault ≡ AtLine m word = cc in
          let answered : sharp_answer_within most_verdict_bytes study held ≡ Faulty m word =
          faulty_within (sharp_conclude study) (sharp_judge study) e known left faulty bytes held (Refused m word) (Faulty m word) ended k
          (λ more. sharp_refused_more study (front (pieces bytes)) more m word told) refl (λ n rest. refl) in
          subst (λ a. IsSharpWorth a w) (sym answered) (worth_of (Faulty m word) (ap Err fault_is))

  -- the file goes on beyond the limit, and no line is faulty
  faultless_is : (p : SharpProgress) (n : ℕ) (told : Told SharpStanding SharpRefusal) → p.fault ≡ None → SharpStandsAs study n p.fault p.judging told → beyond {V = Pointed} told ≡ TooLong
  faultless_is p n (Good s) e h = refl
  faultless_is p n (Refused m word) e h = absurd (cc)

  pub sharp_long_worth : (p : SharpProgress) (e : Ending) (known left : Option (List ℕ)) (faulty : Bool) (bytes held : List ℕ)
      → p.fault ≡ None → faulty ≡ false → e ≢ ending.Whole → IsEndedAt e known left faulty bytes → known ≡ Some held → SharpStandsFor study p (front (pieces bytes))
      → IsSharpWorth (sharp_answer_within most_verdict_bytes study held) worth.TooLong
  sharp_long_worth p e known left faulty bytes held f none differs ended k stands =
      subst (λ a. IsSharpWorth a worth.TooLong)
      (sym (beyond_within (sharp_conclude study) (sharp_judge study) e known left faulty bytes held differs none ended k ∙ faultless_is p (length (front (pieces bytes))) (sharp_judge study (front (pieces bytes))) f stands.1)) refl

  -- ---- what is confirmed

  -- it is the text of a right sharp verdict
  pub sharp_in : (files : Files) (name held : List ℕ) → files name ≡ Some held → IsSharpWorth (sharp_answer_within most_verdict_bytes study held) worth.Confirmed → IsSharpIn study files name
  sharp_in files name held at is =
      let found = sharp_worth_verdict (sharp_answer_within most_verdict_bytes study held) is in
      let within = (within_limit most_verdict_bytes study held found.0).0 found.1 in
      record { bytes = held; held = at; fits = within.0; verdict = found.0; text = judge_sound study held found.0 within.1 }

  -- what was answered of all bytes was the judge's answer
  pub sharp_answered_holds : (Stands : List ℕ → Type 0) {E : Type 0} (answered : Result (Unit {0}) SharpFault) (result : Result SharpWorth E)
      → (result ≡ Ok worth.Confirmed → answered ≡ Ok tt)
      → ((bytes : List ℕ) → Stands bytes → SharpConcludes (sharp_answer study bytes) answered)
      → IfOk result (λ w. (bytes : List ℕ) → IsSize study.size → Stands bytes → SharpWorthHolds study w)
  sharp_answered_holds Stands answered (Ok w) confirmed concludes = λ bytes size stands is.
      let v = sharp_concluded (sharp_answer study bytes) (subst (SharpConcludes (sharp_answer study bytes)) (confirmed (ap Ok is)) (concludes bytes stands)) in
      (v.0, (judge_sound study bytes v.0 v.1).right, confirmed_hold study size bytes v.0 v.1)
  sharp_answered_holds Stands answered (Err e) confirmed concludes = tt

  -- a refusal confirms nothing
  pub sharp_refused_holds : (Stands : List ℕ → Type 0) {E : Type 0} (fault : SharpFault) (result : Result SharpWorth E)
      → (result ≡ Ok worth.Confirmed → sharp_refuses fault ≡ Ok tt)
      → IfOk result (λ w. (bytes : List ℕ) → IsSize study.size → Stands bytes → SharpWorthHolds study w)
  sharp_refused_holds Stands fault (Ok w) confirmed = λ bytes size stands is. absurd (let wrong = confirmed (ap Ok is) in cc)
  sharp_refused_holds Stands fault (Err e) confirmed = tt
