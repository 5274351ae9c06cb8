-- `decide STUDY`.
use Rattle.std.specs.Prelude.{◌≡◌, List, ℕ}
use Rattle.edge.specs.Shelf.{Files}
use Rattle.vocab.specs.Study.{Question}
use Rattle.verdicts.specs.declared.verdicts.Verdict.{Verdict}
use Rattle.verdicts.specs.Report.{report_text}
use Rattle.answers.specs.declared.runs.Run.{Run}
use Rattle.answers.specs.Studies.{OverStudy}
use Rattle.answers.specs.Grounding.{OverClauses}
use Rattle.answers.specs.Evidence.{Decides}

-- the run decides the study, and the report of its verdict is the text
pub record IsReported (study : Question) (run : Run) (text : List ℕ) : Type 0 where
  pub verdict : Verdict
  pub decides : Decides study run verdict
  pub is : text ≡ report_text study verdict

abbrev pub IsDecided : Files → List ℕ → Run → List ℕ → Type 0
IsDecided files name run text =
    OverStudy files name run text (λ study. OverClauses study run text (IsReported study run text))
