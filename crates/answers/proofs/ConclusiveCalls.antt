-- No call spends a limit that is large enough.
use Rattle.std.proofs.Common.{◌≡◌, ◌∙◌, sym, subst, ℕ, ◌≤◌, ◌⊎◌, inl, inr, List, None, Some, arith}
use Rattle.std.proofs.lemmas.Bool.{cases_lt}
use Rattle.edge.specs.Shelf.{Files}
use Rattle.verdicts.specs.declared.verdicts.Verdict.TheVariants.{Impossible}
use Rattle.words.specs.Words.{Request, Decide, Proof, Adopt, Sharpen, request_of}
use Rattle.answers.specs.declared.runs.Run.{Run}
use Rattle.answers.specs.Runs.{with_status}
use Rattle.answers.specs.Lawful.{IsBenchAnswer}
use Rattle.answers.specs.Devices.{Devices}
use Rattle.answers.specs.Call.{IsCall, are_told}
use Rattle.answers.specs.Decide.{IsDecided}
use Rattle.answers.specs.Proof.{IsProved}
use Rattle.answers.specs.Adopt.{IsAdoption}
use Rattle.answers.specs.Sharpen.{IsSharpening}
use Rattle.answers.specs.RowLaws.{IsConclusiveRun, CallsAreConclusive}
use Rattle.answers.proofs.DecidedLaws.{no_sharpening, enough_decided, enough_proved}
use Rattle.answers.proofs.AdoptLaws.{enough_adopted}
use Rattle.answers.proofs.SharpenLaws.{enough_sharpened}
use Rattle.answers.proofs.DeviceLaws.{written_at, front_at}
use Rattle.answers.proofs.CallLaws.{low_status}

-- a row that is conclusive whatever run has it makes the call so
module _ (words : List (List ℕ)) (d : Devices) (run : Run) (call : IsCall words d run) (request : Request) (asked : request_of words ≡ Some request) (files : Files) (told : d.told ≡ Some files)
    (row : (r : Run) (text : List ℕ) → IsBenchAnswer (Some request) files r text → IsConclusiveRun r) where
  done : run.status ≤ 4 → IsConclusiveRun run
  done low = let a = written_at words d run call (Some request) asked files (are_told told) low in row run a.0 a.1

  cut_short : run.status ≡ 6 → IsConclusiveRun run
  cut_short six =
      let a = front_at words d run call (Some request) asked files (are_told told) six in
      let c = row (with_status a.0 run) a.1 a.2 in
      record {
        decided = λ four. let no : 6 ≡ 4 = sym six ∙ four in absurd (omega (arith, no));
        no_log = c.no_log;
        marked = c.marked;
        sharp = c.sharp;
      }

  silent : (status : ℕ) → run.status ≡ status → 5 ≤ status → (run.status ≡ 5) ⊎ (run.status ≡ 7) → IsConclusiveRun run
  silent status is high h =
      let s = call.silent h in
      record {
        decided = λ four. let no : status ≡ 4 = sym is ∙ four in absurd (omega (arith, no, high));
        no_log = s.no_logs;
        marked = λ core story witnesses tells. let no : None ≡ Some (Impossible core story witnesses) = sym s.no_verdict ∙ tells in absurd (cc);
        sharp = no_sharpening run s.no_sharp;
      }

  ended : IsConclusiveRun run
  ended = elim (cases_lt run.status 5) [
    | inl low ↦ done (omega (arith, low))
    | inr high ↦ elim (cases_lt run.status 6) [
      | inl less ↦ let five : run.status ≡ 5 = omega (arith, less, high) in silent 5 five (omega arith) (inl five)
      | inr more ↦ elim (cases_lt run.status 7) [
        | inl less ↦ cut_short (omega (arith, less, more))
        | inr most ↦ let few = low_status words d run call in let seven : run.status ≡ 7 = omega (arith, most, few) in silent 7 seven (omega arith) (inr seven)
      ]
    ]
  ]

pub calls_conclusive : CallsAreConclusive
calls_conclusive words d run files (Decide name' workers) name study call told asked same g enough =
    ended words d run call (Decide name' workers) asked files told (λ r text row. enough_decided files name r text study (subst (λ (n : List ℕ). IsDecided files n r text) same row) g enough)
calls_conclusive words d run files (Proof name' workers) name study call told asked same g enough =
    ended words d run call (Proof name' workers) asked files told (λ r text row. enough_proved files name r text study (subst (λ (n : List ℕ). IsProved files n r text) same row) g enough)
calls_conclusive words d run files (Adopt name' proof workers) name study call told asked same g enough =
    ended words d run call (Adopt name' proof workers) asked files told (λ r text row. enough_adopted files name proof r text study (subst (λ (n : List ℕ). IsAdoption files n proof r text) same row) g enough)
calls_conclusive words d run files (Sharpen name' workers) name study call told asked same g enough =
    ended words d run call (Sharpen name' workers) asked files told (λ r text row. enough_sharpened files name r text study (subst (λ (n : List ℕ). IsSharpening files n r text) same row) g enough)
calls_conclusive words d run files request name study call told asked same g enough = absurd same
