-- What `sharpen` prints holds, and is confirmed; and where the limit is large, no mark is open.
use Rattle.std.proofs.Common.{◌≡◌, ◌∙◌, refl, sym, ap, subst, ℕ, zero, suc, ◌≤◌, ◌^◌, inr, true, false, true≢false, eqb-true, List, [], ◌∷◌, length, None, Some, arith}
use Rattle.std.specs.Cmp.Lexicographic.{pointwise}
use Rattle.std.specs.Prelude.{slice_get}
use Rattle.std.specs.List.{list_all}
use Rattle.std.proofs.lemmas.Bool.{and_parts}
use Rattle.edge.specs.Shelf.{Files}
use Rattle.vocab.specs.Size.{IsSize}
use Rattle.vocab.specs.Study.{Question}
use Rattle.meaning.specs.declared.cores.Witness.{Witness}
use Rattle.meaning.specs.declared.cores.Witness.TheVariants.{Rule, Open}
use Rattle.meaning.specs.Variables.{variable_count}
use Rattle.verdicts.specs.declared.verdicts.Verdict.{Verdict}
use Rattle.verdicts.specs.declared.verdicts.Verdict.TheVariants.{Possible, Impossible, Undecided}
use Rattle.verdicts.specs.Laws.{is_rule_given}
use Rattle.verdicts.specs.Report.{report_text}
use Rattle.verdicts.proofs.ReportLaws.{printed_is_report}
use Rattle.study.proofs.WholeStudies.{studies_whole}
use Rattle.words.specs.Words.{Check, Sharpen, request_of}
use Rattle.search_logs.specs.Spent.{AreSpentLogs}
use Rattle.sharp_verdicts.specs.declared.instances.Cited.{Cited}
use Rattle.sharp_verdicts.specs.declared.sharp.Sharp.{Sharp}
use Rattle.sharp_verdicts.specs.Derived.{derived_study}
use Rattle.sharp_verdicts.specs.Instances.{others_than}
use Rattle.sharp_verdicts.specs.Judged.{Judged, judged_text}
use Rattle.sharp_verdicts.specs.Right.{satisfies_instances, is_mark, pointed}
use Rattle.sharp_verdicts.specs.Sharpened.{IsWithoutInstance, HasMarkEvidence, HaveMarkEvidence, IsSharpened}
use Rattle.sharp_laws.proofs.ClaimLaws.{claims_hold}
use Rattle.answers.specs.declared.runs.Run.{Run}
use Rattle.answers.specs.FileLimits.{most_report_bytes, HasFile}
use Rattle.answers.specs.Studies.{GivesStudy}
use Rattle.answers.specs.Grounding.{OverClauses, clauses_refused, clauses_made}
use Rattle.answers.specs.Evidence.{IsFound}
use Rattle.answers.specs.Check.{judged_status}
use Rattle.answers.specs.Sharpen.{is_impossible, IsSharp, Sharpens, total_refused, decided, sharpened}
use Rattle.answers.specs.Devices.{Devices}
use Rattle.answers.specs.Call.{IsCall, are_told}
use Rattle.answers.specs.Laws.{Says}
use Rattle.answers.specs.RowLaws.{IsWithoutOpen, IsConclusiveRun}
use Rattle.answers.specs.SharpenLaws.{IsInstanceNeeded, by_rule, by_mark, IsSharpeningRight, IsSharpPrinted, a_rule, a_sharpening, SharpenedHolds, WrittenSharpeningsHold, EnoughSharpens, IsConfirmedFor, by_verdict, by_sharp, SharpenedAreConfirmed, ConfirmsFound, a_verdict, a_sharp_text, WrittenSharpeningsAreConfirmed}
use Rattle.answers.proofs.RowLemmas.{some_same, over_study, not_three, granted}
use Rattle.answers.proofs.JudgedLaws.{report_checked, sharp_checked, sharp_answered}
use Rattle.answers.proofs.DecidedLaws.{found_at, no_logs, none_among, conclusive, bare_conclusive}
use Rattle.answers.proofs.ReportLaws.{reportable, listed}
use Rattle.answers.proofs.DeviceLaws.{written_at, checks_answered}
use Rattle.answers.proofs.CallLaws.{calls_complete}
use Rattle.answers.proofs.ConfirmedLaws.{row_written}
use Rattle.answers.proofs.WrittenReports.{judged_confirms}

-- where all marks are rules, so is the one at a place
given_at : (marks : List Witness) → list_all is_rule_given marks ≡ true → (k : ℕ) (m : Witness) → slice_get marks k ≡ Some m → is_rule_given m ≡ true
given_at [] given k m e = absurd (cc)
given_at (n ∷ marks) given zero m e =
    let same : n ≡ m = cc in
    subst (λ (x : Witness). is_rule_given x ≡ true) same (and_parts (is_rule_given n) (list_all is_rule_given marks) given).0
given_at (n ∷ marks) given (suc k) m e = given_at marks (and_parts (is_rule_given n) (list_all is_rule_given marks) given).1 k m e

module _ (study : Question) (s : Sharp) where
  -- the mark of the instance at a place, with its evidence
  marked_at : (rest : List Cited) (marks : List Witness) → pointwise (is_mark study s.instances) rest marks ≡ true
      → HaveMarkEvidence s.logs s.derived s.instances rest marks → (k : ℕ) (c : Cited) → slice_get rest k ≡ Some c
      → (m : Witness) × (slice_get marks k ≡ Some m) × (is_mark study s.instances c m ≡ true) × HasMarkEvidence s.logs s.derived s.instances c m
  marked_at [] marks h logged k c e = absurd (cc)
  marked_at (d ∷ rest) [] h logged k c e = absurd (true≢false (sym h))
  marked_at (d ∷ rest) (m ∷ marks) h logged zero c e =
      let same : d ≡ c = cc in
      let p = and_parts (is_mark study s.instances d m) (pointwise (is_mark study s.instances) rest marks) h in
      (m, refl, subst (λ (x : Cited). is_mark study s.instances x m ≡ true) same p.0, subst (λ (x : Cited). HasMarkEvidence s.logs s.derived s.instances x m) same logged.0)
  marked_at (d ∷ rest) (m ∷ marks) h logged (suc k) c e =
      marked_at rest marks (and_parts (is_mark study s.instances d m) (pointwise (is_mark study s.instances) rest marks) h).1 logged.1 k c e

  -- each listed instance has its rule or its log
  needed_by : (k : ℕ) (c : Cited) (m : Witness) → slice_get s.marks k ≡ Some m → is_mark study s.instances c m ≡ true → HasMarkEvidence s.logs s.derived s.instances c m → IsInstanceNeeded study s k c
  needed_by k c (Rule table) there h logged = by_rule table there h
  needed_by k c (Open limit) there h logged = by_mark (there ∙ ap (λ n. Some (Open n)) (eqb-true limit study.conflicts h)) logged

  needed_at : IsSharpened study s → (k : ℕ) (c : Cited) → slice_get s.instances k ≡ Some c → IsInstanceNeeded study s k c
  needed_at is k c e = let m = marked_at s.instances s.marks is.right.marks is.evidence k c e in needed_by k c m.0 m.1 m.2 m.3

  -- where no mark is open, its rule
  rule_at : list_all is_rule_given s.marks ≡ true → (k : ℕ) (c : Cited) → IsInstanceNeeded study s k c
      → (table : List ℕ) × (slice_get s.marks k ≡ Some (Rule table)) × (satisfies_instances study (others_than s.instances c) table ≡ true)
  rule_at given k c (by_rule table there h) = (table, there, h)
  rule_at given k c (by_mark there logged) = absurd (true≢false (sym (given_at s.marks given k (Open study.conflicts) there)))

  -- where there is no log, no mark is open
  all_given : (rest : List Cited) (marks : List Witness) → s.logs ≡ [] → pointwise (is_mark study s.instances) rest marks ≡ true
      → HaveMarkEvidence s.logs s.derived s.instances rest marks → list_all is_rule_given marks ≡ true
  all_given [] [] none h logged = refl
  all_given [] (m ∷ marks) none h logged = absurd (true≢false (sym h))
  all_given (d ∷ rest) [] none h logged = refl
  all_given (d ∷ rest) (Rule table ∷ marks) none h logged =
      let p = and_parts (satisfies_instances study (others_than s.instances d) table) (pointwise (is_mark study s.instances) rest marks) h in
      all_given rest marks none p.1 logged.1
  all_given (d ∷ rest) (Open limit ∷ marks) none h logged = absurd (none_among s.logs (IsWithoutInstance s.derived s.instances d) none logged.0)

  sharpening_right : (run : Run) → IsSize study.size → IsSharpened study s → AreSpentLogs study run.logs → IsSharpeningRight study run s
  sharpening_right run size is logs =
      let claims = claims_hold study size (pointed s) is.right in
      record {
        right = is.right;
        claims = claims;
        needed = needed_at is;
        all_needed = λ given. record { none = claims.none; others = λ k c e. rule_at given k c (needed_at is k c e) };
        spent = is.logs;
        decided = logs;
      }

  without_open : 3 ^ variable_count study.size ≤ study.conflicts → IsSharpened study s → IsWithoutOpen s
  without_open enough is =
      let none : s.logs ≡ [] = no_logs (derived_study study s.derived) s.logs enough is.logs in
      record { no_log = none; marked = all_given s.instances s.marks none is.right.marks is.evidence }

-- ---- what is printed holds

rule_printed : (study : Question) (run : Run) (text : List ℕ) (verdict : Verdict) → IsFound study run verdict → is_impossible verdict ≡ false → text ≡ report_text study verdict → IsSharpPrinted study run text
rule_printed study run text (Possible table) f other is = a_rule table f.told is f.right
rule_printed study run text (Impossible core story witnesses) f other is = absurd (true≢false other)
rule_printed study run text Undecided f other is = absurd (true≢false (sym f.claims_some))

printed : (study : Question) (run : Run) (text : List ℕ) → IsSize study.size → run.status ≡ 0 → Sharpens study run text → IsSharpPrinted study run text
printed study run text size zero_is (total_refused over is bare) = absurd (not_three run zero_is bare)
printed study run text size zero_is (decided within r other) = rule_printed study run text r.verdict (found_at study run r.verdict zero_is r.decides) other r.is
printed study run text size zero_is (sharpened within s) = a_sharpening s.sharp s.told s.is (sharpening_right study s.sharp run size s.right s.logs)

pub sharpened_hold : SharpenedHolds
sharpened_hold files name run text study row g zero_is =
    printed study run text (studies_whole g.bytes study g.read).1 zero_is (granted files name run text (λ s. Sharpens s run text) study g zero_is row)

pub sharpenings_hold : WrittenSharpeningsHold
sharpenings_hold words d run files name workers study call told asked g zero_is =
    let a = written_at words d run call (Some (Sharpen name workers)) asked files (are_told told) (omega (arith, zero_is)) in
    (a.0, sharpened_hold files name run a.0 study a.1 g zero_is, a.2)

-- ---- a large limit

sharp_conclusive : (study : Question) (run : Run) (text : List ℕ) → 3 ^ variable_count study.size ≤ study.conflicts → IsSharp study run text → IsConclusiveRun run
sharp_conclusive study run text enough s = record {
  decided = λ four. let no : 0 ≡ 4 = sym s.ends ∙ four in absurd (omega (arith, no));
  no_log = no_logs study run.logs enough s.logs;
  marked = λ core story witnesses told. let no : None ≡ Some (Impossible core story witnesses) = sym s.no_verdict ∙ told in absurd (cc);
  sharp = λ t told. subst IsWithoutOpen (some_same run.sharp s.sharp t s.told told) (without_open study s.sharp enough s.right);
}

sharpens_conclusive : (study : Question) (run : Run) (text : List ℕ) → 3 ^ variable_count study.size ≤ study.conflicts → Sharpens study run text → IsConclusiveRun run
sharpens_conclusive study run text enough (total_refused over is bare) = bare_conclusive run 3 (λ no. absurd (omega (arith, no))) bare
sharpens_conclusive study run text enough (decided within r other) = conclusive study run r.verdict enough r.decides
sharpens_conclusive study run text enough (sharpened within s) = sharp_conclusive study run text enough s

conclusive_row : (study : Question) (run : Run) (text : List ℕ) → 3 ^ variable_count study.size ≤ study.conflicts → OverClauses study run text (Sharpens study run text) → IsConclusiveRun run
conclusive_row study run text enough (clauses_refused fault e t bare) = bare_conclusive run 3 (λ no. absurd (omega (arith, no))) bare
conclusive_row study run text enough (clauses_made e r) = sharpens_conclusive study run text enough r

pub enough_sharpened : EnoughSharpens
enough_sharpened files name run text study row g enough =
    conclusive_row study run text enough (over_study files name run text (λ s. OverClauses s run text (Sharpens s run text)) study g row)

-- ---- it is confirmed

module _ (files : Files) (name : List ℕ) (run : Run) (text : List ℕ) (study : Question) (g : GivesStudy files name study) (zero_is : run.status ≡ 0) (fits : length text ≤ most_report_bytes) where
  confirmed_for : Sharpens study run text → IsConfirmedFor study run text
  confirmed_for (total_refused over is bare) = absurd (not_three run zero_is bare)
  confirmed_for (decided within r other) =
      let f = found_at study run r.verdict zero_is r.decides in
      let report = printed_is_report study text r.verdict f.claims_some f.right r.is in
      by_verdict r.verdict f.told (report_checked study text r.verdict (reportable files name study g) (listed files name study g) report fits)
  confirmed_for (sharpened within s) =
      by_sharp s.sharp s.told (sharp_checked study text (pointed s.sharp) (reportable files name study g) (listed files name study g) (record { right = s.right.right; is = s.is }) fits)

pub sharpened_confirmed : SharpenedAreConfirmed
sharpened_confirmed files name run text study row g zero_is fits =
    confirmed_for files name run text study g zero_is fits (granted files name run text (λ s. Sharpens s run text) study g zero_is row)

-- ---- what calls have written

module _ (found : Run) (study : Question) (text : List ℕ) (words : List (List ℕ)) (d : Devices) (run : Run) (files : Files) (name report : List ℕ) (workers : ℕ) (call : IsCall words d run)
    (told : d.told ≡ Some files) (asked : request_of words ≡ Some (Check name report workers)) (g : GivesStudy files name study) (holds : HasFile files most_report_bytes report text) where
  found_confirmed : IsConfirmedFor study found text → ConfirmsFound found words d run
  found_confirmed (by_verdict verdict tells is) = a_verdict verdict tells (judged_confirms study text verdict is words d run files name report workers call told asked g holds)
  found_confirmed (by_sharp s tells is) = a_sharp_text s tells (record {
    says = λ low. subst (λ (a : Judged). Says d run (judged_status a) (judged_text a)) is ((checks_answered words d run files name report workers call told asked low).judged study text g holds.held);
    completes = λ calm. (calls_complete words d run call calm).check files name report text workers study told asked g holds.held
        (inr (pointed s, (sharp_answered study text (pointed s) is).0)) holds.fits;
  })

pub sharpenings_confirmed : WrittenSharpeningsAreConfirmed
sharpenings_confirmed study text wrote words d run files name report workers call told asked g holds =
    found_confirmed wrote.run study text words d run files name report workers call told asked g holds
    (sharpened_confirmed wrote.files wrote.name wrote.run text study (row_written Sharpen study text wrote) wrote.given wrote.done holds.fits)
