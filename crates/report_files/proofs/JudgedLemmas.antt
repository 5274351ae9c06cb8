-- What the text of a file is worth, by the judge whose it is.
use Rattle.std.proofs.Common.{◌≡◌, ◌≢◌, drop, refl, sym, ap, ◌∙◌, subst, ℕ, ◌<◌, Bool, true, false, true≢false, List, [], ◌∷◌, arith, cond, Option, Some, None, is_some, Result, Ok, Err}
use Rattle.std.proofs.lemmas.Bool.{and_parts}
use Rattle.std.specs.Prelude.{◌^◌, ◌&&◌, IfOk, IfSome, IsSome}
use Rattle.edge.specs.Shelf.{Files}
use Rattle.vocab.specs.Study.{Question, HasFewAxioms}
use Rattle.verdicts.specs.declared.refusals.Refusal.TheVariants.{Form}
use Rattle.verdicts.specs.declared.verdicts.Confirmed.{Confirmed}
use Rattle.verdicts.specs.Claims.{claim_of}
use Rattle.verdicts.specs.FirstFault.{Confirmed as Confirms, Faulty}
use Rattle.verdicts.specs.Judge.{pieces, front, answer, answer_within}
use Rattle.verdicts.specs.Report.{lemma_count}
use Rattle.verdicts.proofs.ClaimLaws.{within_limit}
use Rattle.verdicts.proofs.LineEndLaws.{lemmas_fit}
use Rattle.verdicts.proofs.ReportLaws.{right_is_confirmed}
use Rattle.verdicts.specs.Laws.{IsReportable}
use Rattle.sharp_verdicts.specs.Judged.{AsReport, AsSharp, has_sharp_title, judged_within}
use Rattle.sharp_verdicts.specs.SharpJudge.{sharp_answer_within}
use Rattle.sharp_verdicts.specs.SharpLines.{sharp_text}
use Rattle.sharp_laws.proofs.AnswerLaws.{texts_confirmed}
use Rattle.sharp_laws.proofs.ApartLaws.{no_report, titled_is}
use Rattle.sharp_report.specs.declared.progress.SharpProgress.{SharpProgress}
use Rattle.report_files.specs.declared.files.Ending.{Ending}
use Rattle.report_files.specs.declared.files.Ending.TheVariants as ending
use Rattle.report_files.specs.declared.files.FileFault.{FileFault}
use Rattle.report_files.specs.declared.worths.JudgedWorth.{JudgedWorth}
use Rattle.report_files.specs.declared.worths.JudgedWorth.TheVariants.{Report, Sharp}
use Rattle.report_files.specs.declared.worths.SharpWorth.{SharpWorth}
use Rattle.report_files.specs.declared.worths.SharpWorth.TheVariants as sharp_worth
use Rattle.report_files.specs.declared.worths.Worth.{Worth}
use Rattle.report_files.specs.declared.worths.Worth.TheVariants as worth
use Rattle.report_files.specs.Files.{IsEndedAt, IsWorth, IsSharpWorth, IsJudgedWorth, IsJudgedWorthOf, IsClaimedIn, IsSharpIn, FileIsRight, FileIsConfirmed, HasReadWhole, most_verdict_bytes}
use Rattle.report_files.specs.Lines.{CheckerState, has_fault, has_title, StandsForLines, StandsBy}
use Rattle.report_files.specs.Pieces.{ReaderState, StandsForText}
use Rattle.report_files.proofs.CheckerLemmas.{sharp_told}
use Rattle.report_files.proofs.EndedLemmas.{whole_is, prefix_is}
use Rattle.report_files.proofs.SharpWorthLemmas.{sharp_in}
use Rattle.report_files.proofs.TitleLemmas.{title_told, title_within, title_after}
use Rattle.report_files.proofs.WorthLemmas.{claimed_in, confirmed_some}

-- ---- which judge it is

-- at no line none is faulty
no_fault_unread : (c : CheckerState) → StandsForLines c [] → has_fault c ≡ true → ⊥
no_fault_unread c h e = by_sharp c.sharp h e
  where
    by_sharp : (o : Option SharpProgress) → StandsBy c.study c.report (c.admits && false) [] o → has_fault (record c { sharp = o }) ≡ true → ⊥
    by_sharp None h e = true≢false (sym e ∙ ap is_some h.0.1.0)
    by_sharp (Some p) h e = true≢false (sym (and_parts c.admits false h.1).1)

-- a reader of both is at a sharp text exactly where the file has the title of one
pub title_of_file : (r : ReaderState) (e : Ending) (known left : Option (List ℕ)) (bytes held : List ℕ) → r.checker.admits ≡ true → IsEndedAt e known left (has_fault r.checker) bytes → known ≡ Some held
    → StandsForText r bytes → has_sharp_title held ≡ is_some r.checker.sharp
title_of_file r e known left bytes held admits ended k stands = by_lines (front (pieces bytes)) refl ∙ sym told
  where
    told : is_some r.checker.sharp ≡ has_title (front (pieces bytes))
    told = sharp_told r.checker (front (pieces bytes)) stands.0 ∙ ap (λ a. a && has_title (front (pieces bytes))) admits

    by_ending : (e : Ending) → IsEndedAt e known left (has_fault r.checker) bytes → front (pieces bytes) ≡ [] → has_sharp_title held ≡ has_sharp_title bytes
    by_ending ending.Whole ended none = ap has_sharp_title (whole_is known left (has_fault r.checker) bytes held ended k).0
    by_ending ending.Faulty ended none = absurd (no_fault_unread r.checker (subst (StandsForLines r.checker) none stands.0) ended.2)
    by_ending ending.TooLong ended none =
        let parts = prefix_is ending.TooLong known left (has_fault r.checker) bytes held ended k in
        ap has_sharp_title parts.1 ∙ title_within bytes parts.0 (omega (arith, ended.3))

    by_lines : (lines : List (List ℕ)) → front (pieces bytes) ≡ lines → has_sharp_title held ≡ has_title (front (pieces bytes))
    by_lines [] e_lines = by_ending e ended e_lines ∙ title_told bytes
    by_lines (line ∷ lines) e_lines =
        let parts = prefix_is e known left (has_fault r.checker) bytes held ended k in
        ap has_sharp_title parts.1 ∙ title_after bytes parts.0 line lines e_lines

module _ (study : Question) (held : List ℕ) where
  pub judged_report : (w : Worth) → has_sharp_title held ≡ false → IsWorth (answer_within most_verdict_bytes study held) w → IsJudgedWorth (judged_within most_verdict_bytes study held) (Report w)
  judged_report w e h = subst (λ b. IsJudgedWorth (cond b (AsSharp (sharp_answer_within most_verdict_bytes study held)) (AsReport (answer_within most_verdict_bytes study held))) (Report w)) (sym e) h

  pub judged_sharp : (w : SharpWorth) → has_sharp_title held ≡ true → IsSharpWorth (sharp_answer_within most_verdict_bytes study held) w → IsJudgedWorth (judged_within most_verdict_bytes study held) (Sharp w)
  judged_sharp w e h = subst (λ b. IsJudgedWorth (cond b (AsSharp (sharp_answer_within most_verdict_bytes study held)) (AsReport (answer_within most_verdict_bytes study held))) (Sharp w)) (sym e) h

  -- and back
  report_judged : (w : Worth) → IsJudgedWorth (judged_within most_verdict_bytes study held) (Report w) → (has_sharp_title held ≡ false) × IsWorth (answer_within most_verdict_bytes study held) w
  report_judged w h = by_title (has_sharp_title held) refl h
    where
      by_title : (b : Bool) → has_sharp_title held ≡ b → IsJudgedWorth (cond b (AsSharp (sharp_answer_within most_verdict_bytes study held)) (AsReport (answer_within most_verdict_bytes study held))) (Report w)
          → (has_sharp_title held ≡ false) × IsWorth (answer_within most_verdict_bytes study held) w
      by_title true e h = absurd h
      by_title false e h = (e, h)

  sharp_judged : (w : SharpWorth) → IsJudgedWorth (judged_within most_verdict_bytes study held) (Sharp w) → (has_sharp_title held ≡ true) × IsSharpWorth (sharp_answer_within most_verdict_bytes study held) w
  sharp_judged w h = by_title (has_sharp_title held) refl h
    where
      by_title : (b : Bool) → has_sharp_title held ≡ b → IsJudgedWorth (cond b (AsSharp (sharp_answer_within most_verdict_bytes study held)) (AsReport (answer_within most_verdict_bytes study held))) (Sharp w)
          → (has_sharp_title held ≡ true) × IsSharpWorth (sharp_answer_within most_verdict_bytes study held) w
      by_title true e h = (e, h)
      by_title false e h = absurd h

-- ---- files

-- the file that is told to be held is worth this
pub file_worth : (Is : List ℕ → Type 0) (told : Option Files) (name : List ℕ) (first : Option (List ℕ))
    → IfSome told (λ files. IsSome (files name)) → IfSome told (λ files. first ≡ files name)
    → ((held : List ℕ) → first ≡ Some held → Is held)
    → IfSome told (λ files. (held : List ℕ) × (files name ≡ Some held) × Is held)
file_worth Is None name first h s worth_of = tt
file_worth Is (Some files) name first h s worth_of = by_held (files name) refl h
  where
    by_held : (o : Option (List ℕ)) → files name ≡ o → IsSome o → (held : List ℕ) × (files name ≡ Some held) × Is held
    by_held None same some = absurd (true≢false (sym some))
    by_held (Some held) same some = (held, same, worth_of held (s ∙ same))

-- where only the whole of a file is worth this, the reader has read all of it
pub read_whole : (told : Option Files) (r : ReaderState) (name : List ℕ) (first left : Option (List ℕ)) (e : Ending) (bytes : List ℕ) (w : Worth)
    → IfSome told (λ files. first ≡ files name) → IsEndedAt e first left (has_fault r.checker) bytes → StandsForText r bytes
    → ((claim : Confirmed) → w ≡ worth.Confirmed claim → e ≡ ending.Whole) → IfSome told (λ files. HasReadWhole r files name w)
read_whole None r name first left e bytes w s ended stands whole = tt
read_whole (Some files) r name first left e bytes w s ended stands whole = λ claim held is k.
    let parts = whole_is first left (has_fault r.checker) bytes held (subst (λ x. IsEndedAt x first left (has_fault r.checker) bytes) (whole claim is) ended) (s ∙ k) in
    subst (StandsForText r) (sym parts.0) stands

-- ---- what is worth what

pub if_ok : {T E : Type 0} {P Q : T → Type 0} (result : Result T E) → IfOk result P → ((x : T) → P x → Q x) → IfOk result Q
if_ok (Ok x) h f = f x h
if_ok (Err e) h f = tt

pub any_ok : {T E : Type 0} {P : T → Type 0} (result : Result T E) → ((x : T) → P x) → IfOk result P
any_ok (Ok x) f = f x
any_ok (Err e) f = tt

pub if_some : {T : Type 0} {P Q : T → Type 0} (o : Option T) → IfSome o P → ((x : T) → P x → Q x) → IfSome o Q
if_some None h f = tt
if_some (Some x) h f = f x h

-- ---- what is confirmed of a file

module _ (study : Question) (files : Files) (name : List ℕ) where
  pub file_right : (w : JudgedWorth) → IsJudgedWorthOf study files name w → FileIsRight study files name w
  file_right w (held, at, is) = (
    λ claim e. let told = report_judged study held (worth.Confirmed claim) (subst (IsJudgedWorth (judged_within most_verdict_bytes study held)) e is) in claimed_in study files name held claim (worth.Confirmed claim) refl at told.1,
    λ e. let told = sharp_judged study held sharp_worth.Confirmed (subst (IsJudgedWorth (judged_within most_verdict_bytes study held)) e is) in sharp_in study files name held at told.1,
  )

  same_bytes : (o : Option (List ℕ)) (xs ys : List ℕ) → o ≡ Some xs → o ≡ Some ys → xs ≡ ys
  same_bytes o xs ys e f = cc

  -- a report that is confirmed has not the title of a sharp text
  untitled : (bytes : List ℕ) (b : Bool) → has_sharp_title bytes ≡ b → answer study bytes ≢ Faulty 1 Form → has_sharp_title bytes ≡ false
  untitled bytes true e other = absurd (other (no_report study bytes (drop 14 bytes) (titled_is bytes e)))
  untitled bytes false e other = e

  report_confirmed : HasFewAxioms study → (w : JudgedWorth) → IsJudgedWorthOf study files name w → IsReportable study → (claim : Confirmed) → IsClaimedIn study files name claim → w ≡ Report (worth.Confirmed claim)
  report_confirmed listed w (held, at, is_worth) is claim c =
      let same : held ≡ c.bytes = same_bytes (files name) held c.bytes at c.held in
      let v = c.right.verdict in
      let few : lemma_count v < 2 ^ 64 = omega (arith, lemmas_fit study c.bytes v c.right.report, c.fits) in
      let whole : answer study c.bytes ≡ Confirms v = right_is_confirmed study is listed c.bytes v c.right.report few in
      let confirmed : answer_within most_verdict_bytes study c.bytes ≡ Confirms v = (within_limit most_verdict_bytes study c.bytes v).1 (c.fits, whole) in
      let none : has_sharp_title c.bytes ≡ false = untitled c.bytes (has_sharp_title c.bytes) refl (λ e. let wrong : Confirms v ≡ Faulty 1 Form = sym whole ∙ e in absurd (cc)) in
      by_worth w
      (subst (λ a. IsJudgedWorth (AsReport a) w) confirmed
      (subst (λ b. IsJudgedWorth (cond b (AsSharp (sharp_answer_within most_verdict_bytes study c.bytes)) (AsReport (answer_within most_verdict_bytes study c.bytes))) w) none
      (subst (λ (xs : List ℕ). IsJudgedWorth (judged_within most_verdict_bytes study xs) w) same is_worth)))
    where
      by_worth : (w : JudgedWorth) → IsJudgedWorth (AsReport (Confirms c.right.verdict)) w → w ≡ Report (worth.Confirmed claim)
      by_worth (Report x) h = ap Report (confirmed_some (claim_of c.right.verdict) claim x c.right.claims h)
      by_worth (Sharp x) h = absurd h

  sharp_confirmed : HasFewAxioms study → (w : JudgedWorth) → IsJudgedWorthOf study files name w → IsReportable study → IsSharpIn study files name → w ≡ Sharp sharp_worth.Confirmed
  sharp_confirmed listed w (held, at, is_worth) is s =
      let same : held ≡ s.bytes = same_bytes (files name) held s.bytes at s.held in
      let low : most_verdict_bytes < 2 ^ 64 = omega arith in
      let confirmed : sharp_answer_within most_verdict_bytes study s.bytes ≡ Confirms s.verdict = (texts_confirmed most_verdict_bytes study is listed low s.bytes s.verdict).1 (s.fits, s.text) in
      let titled : has_sharp_title s.bytes ≡ true = ap has_sharp_title s.text.is ∙ begins_titled in
      by_worth w
      (subst (λ a. IsJudgedWorth (AsSharp a) w) confirmed
      (subst (λ b. IsJudgedWorth (cond b (AsSharp (sharp_answer_within most_verdict_bytes study s.bytes)) (AsReport (answer_within most_verdict_bytes study s.bytes))) w) titled
      (subst (λ (xs : List ℕ). IsJudgedWorth (judged_within most_verdict_bytes study xs) w) same is_worth)))
    where
      begins_titled : has_sharp_title (sharp_text study s.verdict) ≡ true
      begins_titled = refl

      by_worth : (w : JudgedWorth) → IsJudgedWorth (AsSharp (Confirms s.verdict)) w → w ≡ Sharp sharp_worth.Confirmed
      by_worth (Report x) h = absurd h
      by_worth (Sharp x) h = ap Sharp h

  pub right_file : HasFewAxioms study → (result : Result JudgedWorth FileFault) → IfOk result (IsJudgedWorthOf study files name) → FileIsConfirmed study files name result
  right_file listed (Err fault) h is = (λ claim c. tt, λ s. tt)
  right_file listed (Ok w) h is = (λ claim c. report_confirmed listed w h is claim c, λ s. sharp_confirmed listed w h is s)
