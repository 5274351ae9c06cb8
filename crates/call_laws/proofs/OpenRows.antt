-- What is said where nothing was found.
use Rattle.std.proofs.Common.{◌≡◌, ◌∙◌, refl, sym, ap, subst, ℕ, List, codes, None, Some, arith}
use Rattle.std.specs.Io.KnownBytes.{Appends}
use Rattle.edge.specs.Shelf.{Files}
use Rattle.vocab.specs.Study.{Question}
use Rattle.verdicts.specs.declared.verdicts.Verdict.{Verdict}
use Rattle.verdicts.specs.declared.verdicts.Verdict.TheVariants.{Undecided}
use Rattle.verdicts.specs.Report.{report_text}
use Rattle.samples.specs.Sample.{IsSampleStudy}
use Rattle.samples.proofs.Samples.{samples_once}
use Rattle.words.specs.Words.{Request, Decide, Proof, Sample, Adopt, Sharpen, request_of}
use Rattle.answers.specs.declared.runs.Run.{Run}
use Rattle.answers.specs.Runs.{IsBare}
use Rattle.answers.specs.Adopt.{Adopts, proof_refused, proof_retold}
use Rattle.answers.specs.Call.{IsCall, are_told, none_read}
use Rattle.answers.specs.Decide.{IsReported}
use Rattle.answers.specs.Devices.{Devices}
use Rattle.answers.specs.Evidence.{IsUndecided, Decides, by_verdict, by_limit}
use Rattle.answers.specs.Grounding.{OverClauses}
use Rattle.answers.specs.Lawful.{IsBenchAnswer}
use Rattle.answers.specs.Proof.{Proves, refuted, possible, undecided}
use Rattle.answers.specs.Sample.{IsSampled, IsSummed, summary_line}
use Rattle.answers.specs.Sharpen.{Sharpens, total_refused, decided, sharpened}
use Rattle.answers.specs.Studies.{GivesStudy, OverStudy}
use Rattle.answers.specs.RowLaws.{Searches}
use Rattle.answers.proofs.DeviceLaws.{written_at}
use Rattle.answers.proofs.RowLemmas.{over_study, past_clauses}
use Rattle.call_laws.specs.Rows.{IsLeftOpen, open_text, OpenCallsHaveSpent}

module _ (run : Run) (four : run.status ≡ 4) where
  -- no other status comes
  other_status : (n : ℕ) → run.status ≡ n → 4 ≡ n
  other_status n ends = sym four ∙ ends

  not_three : IsBare run 3 → ⊥
  not_three bare = let no : 4 ≡ 3 = other_status 3 bare.ends in omega (arith, no)

  found_nothing : (study : Question) (verdict : Verdict) → Decides study run verdict → IsUndecided study run × (verdict ≡ Undecided)
  found_nothing study verdict (by_verdict found) = let no : 4 ≡ 0 = other_status 0 found.ends in absurd (omega (arith, no))
  found_nothing study verdict (by_limit u is) = (u, is)

  -- ---- the rest of the row of each command

  abbrev LeavesOpen : Question → (text line : List ℕ) → Type 0
  LeavesOpen study text line = IsUndecided study run × (text ≡ line)

  reported : (study : Question) (text : List ℕ) → IsReported study run text → LeavesOpen study text (report_text study Undecided)
  reported study text r = let u = found_nothing study r.verdict r.decides in (u.0, r.is ∙ ap (report_text study) u.1)

  proved : (study : Question) (text : List ℕ) → Proves study run text → LeavesOpen study text (codes "c undecided\n")
  proved study text (refuted lines r bare is) = let no : 4 ≡ 0 = other_status 0 bare.ends in absurd (omega (arith, no))
  proved study text (possible table found is) = let no : 4 ≡ 0 = other_status 0 found.ends in absurd (omega (arith, no))
  proved study text (undecided u is) = (u, is)

  adopted : (files : Files) (proof : List ℕ) (study : Question) (text line : List ℕ) → Adopts files proof study run text → LeavesOpen study text line
  adopted files proof study text line (proof_refused bytes held one is bare) = let no : 4 ≡ 1 = other_status 1 bare.ends in absurd (omega (arith, no))
  adopted files proof study text line (proof_retold bytes lines held refutes retold) = let no : 4 ≡ 0 = other_status 0 retold.found.ends in absurd (omega (arith, no))

  sharpens : (study : Question) (text : List ℕ) → Sharpens study run text → LeavesOpen study text (report_text study Undecided)
  sharpens study text (total_refused over is bare) = absurd (not_three bare)
  sharpens study text (decided within r other) = reported study text r
  sharpens study text (sharpened within s) = let no : 4 ≡ 0 = other_status 0 s.ends in absurd (omega (arith, no))

  summed : (number : ℕ) (study : Question) (text : List ℕ) → IsSummed number study run text → LeavesOpen study text (summary_line number study Undecided)
  summed number study text s = let u = found_nothing study s.verdict s.decides in (u.0, s.is ∙ ap (summary_line number study) u.1)

module _ (words : List (List ℕ)) (d : Devices) (run : Run) (call : IsCall words d run) (four : run.status ≡ 4) where
  left_open : (study : Question) (text line : List ℕ) → Appends d.taken_before d.taken_now text → LeavesOpen run four study text line → IsLeftOpen study d run line
  left_open study text line written h = record {
    told = h.0.told;
    spent = h.0.spent;
    logs = h.0.logs;
    written = subst (λ (t : List ℕ). Appends d.taken_before d.taken_now t) h.1 written;
  }

  -- of a command whose row is one over the clauses of the study of a file
  open_at : (files : Files) (request : Request) (file name : List ℕ) (study : Question) (line : List ℕ) (IsRest : List ℕ → Question → Type 0) → d.told ≡ Some files
      → request_of words ≡ Some request → file ≡ name → GivesStudy files name study
      → ((text : List ℕ) → IsBenchAnswer (Some request) files run text → OverStudy files file run text (λ s. OverClauses s run text (IsRest text s)))
      → ((text : List ℕ) → IsRest text study → LeavesOpen run four study text line) → IsLeftOpen study d run line
  open_at files request file name study line IsRest told asked same g into rest =
      let a = written_at words d run call (Some request) asked files (are_told told) (omega (arith, four)) in
      let row = subst (λ (n : List ℕ). OverStudy files n run a.0 (λ s. OverClauses s run a.0 (IsRest a.0 s))) same (into a.0 a.1) in
      let made = over_study files name run a.0 (λ s. OverClauses s run a.0 (IsRest a.0 s)) study g row in
      left_open study a.0 line a.2 (rest a.0 (past_clauses study run a.0 (IsRest a.0 study) (not_three run four) made))

  of_file : (files : Files) (request : Request) (name : List ℕ) (study : Question) → d.told ≡ Some files → request_of words ≡ Some request → Searches request name
      → GivesStudy files name study → IsLeftOpen study d run (open_text request study)
  of_file files (Decide file workers) name study told asked same g =
      open_at files (Decide file workers) file name study (report_text study Undecided) (λ text s. IsReported s run text) told asked same g (λ text row. row) (reported run four study)
  of_file files (Proof file workers) name study told asked same g =
      open_at files (Proof file workers) file name study (codes "c undecided\n") (λ text s. Proves s run text) told asked same g (λ text row. row) (proved run four study)
  of_file files (Adopt file proof workers) name study told asked same g =
      open_at files (Adopt file proof workers) file name study (report_text study Undecided) (λ text s. Adopts files proof s run text) told asked same g (λ text row. row)
      (λ text rest. adopted run four files proof study text (report_text study Undecided) rest)
  of_file files (Sharpen file workers) name study told asked same g =
      open_at files (Sharpen file workers) file name study (report_text study Undecided) (λ text s. Sharpens s run text) told asked same g (λ text row. row) (sharpens run four study)
  of_file files request name study told asked same g = absurd same

  of_number : (number : ℕ) (study : Question) → request_of words ≡ Some (Sample number) → IsSampleStudy number study → IsLeftOpen study d run (summary_line number study Undecided)
  of_number number study asked sample =
      let a = written_at words d run call (Some (Sample number)) asked (λ name. None) (none_read refl) (omega (arith, four)) in
      let row : IsSampled number run a.0 = a.1 in
      let same : row.0 ≡ study = samples_once number row.0 study row.1 sample in
      let made = past_clauses row.0 run a.0 (IsSummed number row.0 run a.0) (not_three run four) row.2 in
      left_open study a.0 (summary_line number study Undecided) a.2 (summed run four number study a.0 (subst (λ (s : Question). IsSummed number s run a.0) same made))

pub open_spent : OpenCallsHaveSpent
open_spent = record {
  of_file = λ words d run files request name study call told asked same g four. of_file words d run call four files request name study told asked same g;
  of_number = λ words d run number study call asked sample four. of_number words d run call four number study asked sample;
}
