-- What a report in a file is worth.
use Rattle.std.proofs.Common.{◌≡◌, ◌≢◌, refl, sym, ap, ◌∙◌, subst, ℕ, Bool, false, List, Option, Some, None, inr, Result, Ok, Err}
use Rattle.std.specs.Prelude.{IfOk, IsSomeAnd}
use Rattle.edge.specs.Shelf.{Files}
use Rattle.vocab.specs.Size.{IsSize}
use Rattle.vocab.specs.Study.{Question}
use Rattle.verdicts.specs.declared.refusals.Refusal.{Refusal}
use Rattle.verdicts.specs.declared.verdicts.Confirmed.{Confirmed}
use Rattle.verdicts.specs.declared.verdicts.Verdict.{Verdict}
use Rattle.verdicts.specs.Claims.{claim_of}
use Rattle.verdicts.specs.Places.{Standing}
use Rattle.verdicts.specs.FirstFault.{Told, Good, Refused, Judgement, Confirmed as Confirms, Faulty, TooLong, beyond}
use Rattle.verdicts.specs.Judge.{judge, pieces, front, conclude, answer, answer_within}
use Rattle.verdicts.proofs.ClaimLaws.{within_limit}
use Rattle.verdicts.proofs.JudgeLaws.{judge_sound}
use Rattle.report.specs.declared.faults.ReportFault.{ReportFault}
use Rattle.report.specs.declared.faults.ReportFault.TheVariants.{Line as AtLine}
use Rattle.report.specs.declared.progress.Progress.{Progress}
use Rattle.report.specs.Answers.{Concludes, ConfirmsTrue}
use Rattle.report.specs.Stands.{StandsAt, StandsFor}
use Rattle.report.proofs.AnswerLemmas.{true_if_right}
use Rattle.report_files.specs.declared.files.Ending.{Ending}
use Rattle.report_files.specs.declared.files.Ending.TheVariants as ending
use Rattle.report_files.specs.declared.worths.Worth.{Worth}
use Rattle.report_files.specs.declared.worths.Worth.TheVariants as worth
use Rattle.report_files.specs.Files.{IsEndedAt, IsWorth, IsClaimedIn, WorthHolds, most_verdict_bytes}
use Rattle.report_files.proofs.EndedLemmas.{whole_within, faulty_within, beyond_within}
use Rattle.report_files.proofs.LineLemmas.{refused_more}
use Rattle.report_files.proofs.TextLemmas.{text_right}

-- ---- what is answered

abbrev confirms : Confirmed → Result Confirmed ReportFault
confirms c = Ok c

abbrev refuses : ℕ → Refusal → Result Confirmed ReportFault
refuses m word = Err (AtLine m word)

abbrev fails : ReportFault → Result Confirmed ReportFault
fails fault = Err fault

some_worth : (o : Option Confirmed) (c : Confirmed) → IsSomeAnd o (λ claim. confirms c ≡ Ok claim) → IsSomeAnd o (λ claim. worth.Confirmed c ≡ worth.Confirmed claim)
some_worth None c h = absurd h
some_worth (Some a) c h = let same : c ≡ a = cc in ap worth.Confirmed same

pub concludes_ok : (a : Judgement Verdict Refusal) (c : Confirmed) → Concludes a (Ok c) → IsWorth a (worth.Confirmed c)
concludes_ok (Confirms verdict) c h = some_worth (claim_of verdict) c h
concludes_ok (Faulty n word) c h = absurd (cc)
concludes_ok TooLong c h = absurd h

pub concludes_line : (a : Judgement Verdict Refusal) (m : ℕ) (word : Refusal) → Concludes a (Err (AtLine m word)) → IsWorth a (worth.Faulty m word)
concludes_line (Confirms verdict) m word h = absurd (none_claimed (claim_of verdict) h)
  where
    none_claimed : (o : Option Confirmed) → IsSomeAnd o (λ claim. refuses m word ≡ Ok claim) → ⊥
    none_claimed None h = h
    none_claimed (Some a) h = cc
concludes_line (Faulty n w) m word h = let one : m ≡ n = cc in let two : word ≡ w = cc in ap (λ k. worth.Faulty k word) one ∙ ap (worth.Faulty n) two
concludes_line TooLong m word h = absurd h

-- ---- what was read

module _ (study : Question) where
  -- all was read
  pub whole_worth : (e : Ending) (known left : Option (List ℕ)) (faulty : Bool) (bytes held : List ℕ) (result : Result Confirmed ReportFault) (w : Worth)
      → e ≡ ending.Whole → IsEndedAt e known left faulty bytes → known ≡ Some held
      → Concludes (answer study bytes) result → ((a : Judgement Verdict Refusal) → Concludes a result → IsWorth a w) → IsWorth (answer_within most_verdict_bytes study held) w
  whole_worth e known left faulty bytes held result w same ended k concluded worth_of =
      let whole : IsEndedAt ending.Whole known left faulty bytes = subst (λ x. IsEndedAt x known left faulty bytes) same ended in
      subst (λ a. IsWorth a w) (sym (whole_within conclude (judge study) known left faulty bytes held whole k)) (worth_of (answer study bytes) concluded)

  -- a line is faulty
  pub faulty_worth : (p : Progress) (e : Ending) (known left : Option (List ℕ)) (faulty : Bool) (bytes held : List ℕ) (fault : ReportFault) (w : Worth)
      → p.fault ≡ Some fault → IsEndedAt e known left faulty bytes → known ≡ Some held → StandsFor study p (front (pieces bytes))
      → ((a : Judgement Verdict Refusal) → Concludes a (Err fault) → IsWorth a w) → IsWorth (answer_within most_verdict_bytes study held) w
  faulty_worth p e known left faulty bytes held fault w f ended k stands worth_of = by_told (judge study (front (pieces bytes))) refl stands.1
    where
      by_told : (told : Told Standing Refusal) → judge study (front (pieces bytes)) ≡ told → StandsAt study p told → IsWorth (answer_within most_verdict_bytes study held) w
      by_told (Good s) told h = let wrong : Some fault ≡ None = sym f ∙ h.0 in absurd (cc)
      by_told (Refused m word) told h =
          let same : Some fault ≡ Some (AtLine m word) = sym f ∙ h in
          let fault_is : fault ≡ AtLine m word = cc in
          let answered : answer_within most_verdict_bytes study held ≡ Faulty m word =
          faulty_within conclude (judge study) e known left faulty bytes held (Refused m word) (Faulty m word) ended k
          (λ more. refused_more study (front (pieces bytes)) more m word told) refl (λ n rest. refl) in
          subst (λ a. IsWorth a w) (sym answered) (worth_of (Faulty m word) (ap Err fault_is))

  -- the file goes on beyond the limit, and no line is faulty
  faultless_is : (p : Progress) (told : Told Standing Refusal) → p.fault ≡ None → StandsAt study p told → beyond {V = Verdict} told ≡ TooLong
  faultless_is p (Good s) e h = refl
  faultless_is p (Refused m word) e h = absurd (cc)

  pub long_worth : (p : Progress) (e : Ending) (known left : Option (List ℕ)) (faulty : Bool) (bytes held : List ℕ)
      → p.fault ≡ None → faulty ≡ false → e ≢ ending.Whole → IsEndedAt e known left faulty bytes → known ≡ Some held → StandsFor study p (front (pieces bytes))
      → IsWorth (answer_within most_verdict_bytes study held) worth.TooLong
  long_worth p e known left faulty bytes held f none differs ended k stands =
      subst (λ a. IsWorth a worth.TooLong)
      (sym (beyond_within conclude (judge study) e known left faulty bytes held differs none ended k ∙ faultless_is p (judge study (front (pieces bytes))) f stands.1)) refl

-- ---- what is confirmed of a file

some_confirmed : (o : Option Confirmed) (c : Confirmed) (w : Worth) → w ≡ worth.Confirmed c → IsSomeAnd o (λ claim. w ≡ worth.Confirmed claim) → o ≡ Some c
some_confirmed None c w e h = absurd h
some_confirmed (Some a) c w e h = let same : a ≡ c = cc in ap Some same

pub confirmed_some : (o : Option Confirmed) (c : Confirmed) (w : Worth) → o ≡ Some c → IsSomeAnd o (λ claim. w ≡ worth.Confirmed claim) → w ≡ worth.Confirmed c
confirmed_some None c w e h = absurd h
confirmed_some (Some a) c w e h = let same : a ≡ c = cc in h ∙ ap worth.Confirmed same

-- the verdict whose claim it is
worth_claim : (a : Judgement Verdict Refusal) (c : Confirmed) (w : Worth) → w ≡ worth.Confirmed c → IsWorth a w → (v : Verdict) × (a ≡ Confirms v) × (claim_of v ≡ Some c)
worth_claim (Confirms v) c w e h = (v, refl, some_confirmed (claim_of v) c w e h)
worth_claim (Faulty n word) c w e h = absurd (cc)
worth_claim TooLong c w e h = absurd (cc)

-- what is confirmed of a file is the claim of a right verdict whose report it is
pub claimed_in : (study : Question) (files : Files) (name held : List ℕ) (claim : Confirmed) (w : Worth) → w ≡ worth.Confirmed claim → files name ≡ Some held → IsWorth (answer_within most_verdict_bytes study held) w → IsClaimedIn study files name claim
claimed_in study files name held claim w e at is =
    let found = worth_claim (answer_within most_verdict_bytes study held) claim w e is in
    let within = (within_limit most_verdict_bytes study held found.0).0 found.1 in
    record {
      bytes = held;
      held = at;
      fits = within.0;
      right = record { verdict = found.0; report = judge_sound study held found.0 within.1; claims = found.2 };
    }

-- ---- what is confirmed holds, of whatever bytes were read

module _ (study : Question) (Stands : List ℕ → Type 0) {E : Type 0} where
  -- what was answered of all bytes was the judge's answer
  pub answered_holds : (answered : Result Confirmed ReportFault) (result : Result Worth E)
      → ((claim : Confirmed) → result ≡ Ok (worth.Confirmed claim) → answered ≡ Ok claim)
      → ((bytes : List ℕ) → Stands bytes → Concludes (answer study bytes) answered)
      → IfOk result (λ w. (bytes : List ℕ) → IsSize study.size → Stands bytes → WorthHolds study w)
  answered_holds answered (Ok w) claimed concludes = λ bytes size stands claim is.
      let right : ConfirmsTrue study answered = true_if_right study bytes answered size (text_right study bytes answered (inr (concludes bytes stands))) in
      subst (ConfirmsTrue study) (claimed claim (ap Ok is)) right
  answered_holds answered (Err e) claimed concludes = tt

  -- a refusal confirms nothing
  pub refused_holds : (fault : ReportFault) (result : Result Worth E)
      → ((claim : Confirmed) → result ≡ Ok (worth.Confirmed claim) → fails fault ≡ Ok claim)
      → IfOk result (λ w. (bytes : List ℕ) → IsSize study.size → Stands bytes → WorthHolds study w)
  refused_holds fault (Ok w) claimed = λ bytes size stands claim is. absurd (let wrong = claimed claim (ap Ok is) in cc)
  refused_holds fault (Err e) claimed = tt

-- a refusal is confirmed of nothing that was read whole
pub refused_whole : {E : Type 0} (fault : ReportFault) (e : Ending) (result : Result Worth E)
    → ((claim : Confirmed) → result ≡ Ok (worth.Confirmed claim) → fails fault ≡ Ok claim)
    → IfOk result (λ w. (claim : Confirmed) → w ≡ worth.Confirmed claim → e ≡ ending.Whole)
refused_whole fault e (Ok w) claimed = λ claim is. absurd (let wrong = claimed claim (ap Ok is) in cc)
refused_whole fault e (Err f) claimed = tt
