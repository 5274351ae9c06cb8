-- `sharpen STUDY`.
use Rattle.std.specs.Prelude.{◌≡◌, ℕ, Bool, true, false, List, [], ◌∷◌, ◌++◌, codes, None, Some, IsTrue, IsFalse}
use Rattle.std.specs.Fmt.{decimal}
use Rattle.edge.specs.Shelf.{Files}
use Rattle.vocab.specs.Study.{Question}
use Rattle.meaning.specs.declared.clauses.Counts.{Counts}
use Rattle.verdicts.specs.declared.verdicts.Verdict.{Verdict}
use Rattle.verdicts.specs.declared.verdicts.Verdict.TheVariants.{Impossible}
use Rattle.search_logs.specs.Spent.{AreSpentLogs}
use Rattle.sharp_verdicts.specs.declared.sharp.Sharp.{Sharp}
use Rattle.sharp_verdicts.specs.Right.{pointed}
use Rattle.sharp_verdicts.specs.Sharpened.{IsSharpened}
use Rattle.sharp_verdicts.specs.SharpLines.{sharp_text}
use Rattle.sharp_verdicts.specs.Totals.{passes_clause_limits, total}
use Rattle.answers.specs.declared.runs.Run.{Run}
use Rattle.answers.specs.Runs.{IsBare}
use Rattle.answers.specs.Studies.{OverStudy}
use Rattle.answers.specs.Grounding.{OverClauses}
use Rattle.answers.specs.Decide.{IsReported}

-- the line of a study whose frames and instances together pass a limit
abbrev pub total_line : Counts → List ℕ
total_line counts = codes "study: total " ++ (decimal counts.clauses ++ (32 ∷ (decimal counts.literals ++ 10 ∷ [])))

-- a verdict is an impossibility
abbrev pub is_impossible : Verdict → Bool
is_impossible (Impossible core story witnesses) = true
is_impossible _ = false

-- the run has sharpened an impossibility: what sharpening came to is right; each log is of a search over the study
-- that spent its limit; and the text is that of the sharp verdict
pub record IsSharp (study : Question) (run : Run) (text : List ℕ) : Type 0 where
  pub sharp : Sharp
  pub ends : run.status ≡ 0
  pub told : run.sharp ≡ Some sharp
  pub no_verdict : run.verdict ≡ None
  pub logs : AreSpentLogs study run.logs
  pub right : IsSharpened study sharp
  pub is : text ≡ sharp_text study (pointed sharp)

-- the frames with all instances pass a limit; or the study is decided, and what is found is no impossibility; or the
-- impossibility that is found is sharpened
pub data Sharpens (study : Question) (run : Run) (text : List ℕ) : Type 0 where
  total_refused : IsTrue (passes_clause_limits (total study)) → text ≡ total_line (total study) → IsBare run 3
      → Sharpens study run text
  decided : IsFalse (passes_clause_limits (total study)) → (reported : IsReported study run text)
      → IsFalse (is_impossible reported.verdict) → Sharpens study run text
  sharpened : IsFalse (passes_clause_limits (total study)) → IsSharp study run text → Sharpens study run text

abbrev pub IsSharpening : Files → List ℕ → Run → List ℕ → Type 0
IsSharpening files name run text =
    OverStudy files name run text (λ study. OverClauses study run text (Sharpens study run text))
