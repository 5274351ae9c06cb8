-- What is confirmed is right.
use Rattle.std.proofs.Common.{◌≡◌, ◌≢◌, ◌∙◌, refl, sym, ap, ap₂, cond, subst, ℕ, ◌+◌, ◌<◌, ◌≤◌, ◌^◌, true, true≢false, List, [], length, Option, Some, None, Result, Ok, Err, arith}
use Rattle.std.specs.Prelude.{IsSomeAnd}
use Rattle.std.specs.List.{list_all}
use Rattle.vocab.specs.Size.{IsSize}
use Rattle.vocab.specs.Study.{Question, HasFewAxioms}
use Rattle.verdicts.specs.declared.verdicts.Confirmed.{Confirmed}
use Rattle.verdicts.specs.declared.verdicts.Verdict.{Verdict}
use Rattle.verdicts.specs.declared.verdicts.Verdict.TheVariants.{Possible, Impossible, Undecided}
use Rattle.verdicts.specs.Claims.{claim_of}
use Rattle.verdicts.specs.Places.{Place, AtNothing, Standing}
use Rattle.verdicts.specs.declared.refusals.Refusal.{Refusal}
use Rattle.verdicts.specs.FirstFault.{Told, Good, Refused, Judgement, Confirmed as Confirms, Faulty, TooLong}
use Rattle.verdicts.specs.Judge.{judge, has_no_end, ended, at_end, conclude, rule_of}
use Rattle.verdicts.proofs.ClaimLaws.{right_claims}
use Rattle.verdicts.proofs.JudgeLaws.{good_holds, concluded_sound}
use Rattle.verdicts.proofs.LineEndLaws.{lines_complete}
use Rattle.verdicts.proofs.SoundLaws.{Holds, HasRowsOf}
use Rattle.report_lines.specs.Held.{held_place}
use Rattle.report.specs.declared.faults.ReportFault.{ReportFault}
use Rattle.report.specs.declared.faults.ReportFault.TheVariants.{Line as AtLine}
use Rattle.report.specs.declared.progress.Progress.{Progress}
use Rattle.report.specs.Answers.{Concludes, ConfirmsRight, ConfirmsAll, ConfirmsTrue, IsReportedRule, TellsAll, is_rule_end}
use Rattle.report.specs.Stands.{StandsAs, StandsFor}

-- ---- what is answered of a report

some_claim : (o : Option Confirmed) (c : Confirmed) (result : Result Confirmed ReportFault) → o ≡ Some c → IsSomeAnd o (λ claim. result ≡ Ok claim) → result ≡ Ok c
some_claim None c result e h = absurd h
some_claim (Some a) c result e h = let same : a ≡ c = cc in h ∙ ap Ok same

abbrev confirms : Confirmed → Result Confirmed ReportFault
confirms c = Ok c

claim_some : (o : Option Confirmed) (c : Confirmed) → IsSomeAnd o (λ claim. confirms c ≡ Ok claim) → o ≡ Some c
claim_some None c h = absurd h
claim_some (Some a) c h = let same : a ≡ c = cc in ap Some same

-- Ok is the claim of the verdict that is confirmed
pub concluded : (a : Judgement Verdict Refusal) (c : Confirmed) → Concludes a (Ok c) → (v : Verdict) × (a ≡ Confirms v) × (claim_of v ≡ Some c)
concluded (Confirms v) c h = (v, refl, claim_some (claim_of v) c h)
concluded (Faulty line word) c h = absurd (cc)
concluded TooLong c h = absurd h

-- where the verdict that is confirmed has a claim, it is answered
pub concludes_claim : (a : Judgement Verdict Refusal) (v : Verdict) (c : Confirmed) (result : Result Confirmed ReportFault) → a ≡ Confirms v → claim_of v ≡ Some c → Concludes a result → result ≡ Ok c
concludes_claim a v c result e f h = some_claim (claim_of v) c result f (subst (λ (b : Judgement Verdict Refusal). Concludes b result) e h)

pub true_if_right : (study : Question) (text : List ℕ) (result : Result Confirmed ReportFault) → IsSize study.size → ConfirmsRight study text result → ConfirmsTrue study result
true_if_right study text (Ok c) size h = right_claims study size text c h
true_if_right study text (Err fault) size h = tt

-- ---- of lines that are given one by one

module _ (study : Question) (lines : List (List ℕ)) where
  -- a verdict that is read to its end claims something
  claims_at : (s : Standing) → judge study lines ≡ Good s → s.place ≢ AtNothing Undecided
  claims_at s e at =
      let holds : Holds study (AtNothing Undecided) s = subst (λ (p : Place). Holds study p s) at (good_holds study s lines e) in
      true≢false (sym holds.0.2)

  -- where no line is faulty
  pub ends : (p : Progress) (rest : List ℕ) (n : ℕ) (result : Result Confirmed ReportFault) → p.fault ≡ None → n ≡ p.lines + 1 → StandsFor study p lines →
      ((q : Place) → p.judging.place ≡ held_place q → q ≢ AtNothing Undecided → Concludes (at_end n rest q) result) → Concludes (conclude (length lines + 1) rest (judge study lines)) result
  ends p rest n result none number h go = by_told (judge study lines) refl h.1
    where
      by_told : (told : Told Standing Refusal) → judge study lines ≡ told → StandsAs study p.fault p.judging told → Concludes (conclude (length lines + 1) rest told) result
      by_told (Good s) e k =
          let same : n ≡ length lines + 1 = number ∙ ap (λ m. m + 1) h.0 in
          subst (λ m. Concludes (at_end m rest s.place) result) same (go s.place k.1.place (claims_at s e))
      by_told (Refused line word) e k = let wrong : None ≡ Some (AtLine line word) = sym none ∙ k in absurd (cc)

  pub lines_right : (result : Result Confirmed ReportFault) → Concludes (conclude (length lines + 1) [] (judge study lines)) result → ConfirmsRight study (ended lines) result
  lines_right (Ok c) h =
      let a = concluded (conclude (length lines + 1) [] (judge study lines)) c h in
      record { verdict = a.0; report = concluded_sound study (length lines + 1) lines a.0 a.1; claims = a.2 }
  lines_right (Err fault) h = tt

  pub lines_all : HasFewAxioms study → (result : Result Confirmed ReportFault) → length lines ≤ 4294967294
      → list_all has_no_end lines ≡ true → Concludes (conclude (length lines + 1) [] (judge study lines)) result
      → ConfirmsAll study (ended lines) result
  lines_all listed result few none h = λ is claim c.
      let less : length lines < 2 ^ 64 = omega (arith, few) in
      concludes_claim (conclude (length lines + 1) [] (judge study lines)) c.verdict claim result (lines_complete study is listed lines none c.verdict c.report less) c.claims h

  -- ---- the table of the rule

  -- what is held of a rule at its end
  abbrev HasRowsAt : Place → List ℕ → Type 0
  HasRowsAt (AtNothing v) rows = HasRowsOf study v rows
  HasRowsAt _ rows = Unit {0}

  rows_at : (q : Place) (s : Standing) → Holds study q s → HasRowsAt q s.rows
  rows_at (AtNothing v) s h = h.1
  rows_at _ s h = tt

  rule_at : (n : ℕ) (q : Place) (rows : List ℕ) → HasRowsAt q rows → cond (is_rule_end (held_place q)) (Some rows) None ≡ rule_of (at_end n [] q)
  rule_at n (AtNothing (Possible table)) rows h = ap Some h
  rule_at n (AtNothing (Impossible core story witnesses)) rows h = refl
  rule_at n (AtNothing Undecided) rows h = refl
  rule_at n _ rows h = refl

  pub rule_told : (p : Progress) → p.fault ≡ None → StandsFor study p lines → cond (is_rule_end p.judging.place) (Some p.judging.rows) None ≡ rule_of (conclude (length lines + 1) [] (judge study lines))
  rule_told p none h = by_told (judge study lines) refl h.1
    where
      by_told : (told : Told Standing Refusal) → judge study lines ≡ told → StandsAs study p.fault p.judging told → cond (is_rule_end p.judging.place) (Some p.judging.rows) None ≡ rule_of (conclude (length lines + 1) [] told)
      by_told (Good s) e k =
          ap₂ (λ place rows. cond (is_rule_end place) (Some rows) None) k.1.place k.1.rows
          ∙ rule_at (length lines + 1) s.place s.rows (rows_at s.place s (good_holds study s lines e))
      by_told (Refused line word) e k = let wrong : None ≡ Some (AtLine line word) = sym none ∙ k in absurd (cc)

  pub no_rule_told : (p : Progress) (fault : ReportFault) → p.fault ≡ Some fault → StandsFor study p lines → None ≡ rule_of (conclude (length lines + 1) [] (judge study lines))
  no_rule_told p fault some h = by_told (judge study lines) h.1
    where
      by_told : (told : Told Standing Refusal) → StandsAs study p.fault p.judging told → None ≡ rule_of (conclude (length lines + 1) [] told)
      by_told (Good s) k = let wrong : None ≡ Some fault = sym k.0 ∙ some in absurd (cc)
      by_told (Refused line word) k = refl

  -- it is the rule of the report that the lines are
  confirmed_rule : (a : Judgement Verdict Refusal) (table : List ℕ) → rule_of a ≡ Some table → a ≡ Confirms (Possible table)
  confirmed_rule (Confirms (Possible t)) table e = let same : t ≡ table = cc in ap (λ x. Confirms (Possible x)) same
  confirmed_rule _ table e = absurd (cc)

  pub rule_right : (r : Option (List ℕ)) → r ≡ rule_of (conclude (length lines + 1) [] (judge study lines)) → IsReportedRule study (ended lines) r
  rule_right None e = tt
  rule_right (Some table) e = concluded_sound study (length lines + 1) lines (Possible table) (confirmed_rule (conclude (length lines + 1) [] (judge study lines)) table (sym e))

  pub rule_all : HasFewAxioms study → (r : Option (List ℕ)) → length lines ≤ 4294967294 → list_all has_no_end lines ≡ true
      → r ≡ rule_of (conclude (length lines + 1) [] (judge study lines)) → TellsAll study (ended lines) r
  rule_all listed r few none e = λ is table report.
      let less : length lines < 2 ^ 64 = omega (arith, few) in
      e ∙ ap rule_of (lines_complete study is listed lines none (Possible table) report less)
