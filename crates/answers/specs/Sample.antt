-- `sample N`.
use Rattle.std.specs.Prelude.{◌≡◌, ℕ, List, [], ◌∷◌, ◌++◌, length, codes}
use Rattle.std.specs.Fmt.{decimal}
use Rattle.vocab.specs.Study.{Question}
use Rattle.samples.specs.Sample.{IsSampleStudy}
use Rattle.meaning.specs.Texts.{kind_text}
use Rattle.verdicts.specs.declared.verdicts.Verdict.{Verdict}
use Rattle.verdicts.specs.Words.{claim_text}
use Rattle.answers.specs.declared.runs.Run.{Run}
use Rattle.answers.specs.Grounding.{all_clauses, OverClauses}
use Rattle.answers.specs.Evidence.{Decides}

-- what is said of the study of a number, which has so many clauses
abbrev pub summary_text : ℕ → Question → ℕ → Verdict → List ℕ
summary_text n study clauses verdict =
    codes "sample " ++ (decimal n ++ (codes ": kind " ++ (kind_text study.size.kind
    ++ (codes " voters " ++ (decimal study.size.voters
    ++ (codes " alternatives 3 axioms " ++ (decimal (length study.axioms)
    ++ (codes " clauses " ++ (decimal clauses
    ++ (codes " verdict " ++ (claim_text verdict ++ 10 ∷ [])))))))))))

-- the same, with the clauses of all axioms
abbrev pub summary_line : ℕ → Question → Verdict → List ℕ
summary_line n study verdict = summary_text n study (length (all_clauses study)) verdict

-- the run decides the study, and the text is the summary
pub record IsSummed (n : ℕ) (study : Question) (run : Run) (text : List ℕ) : Type 0 where
  pub verdict : Verdict
  pub decides : Decides study run verdict
  pub is : text ≡ summary_line n study verdict

-- no file is read
abbrev pub IsSampled : ℕ → Run → List ℕ → Type 0
IsSampled n run text =
    (study : Question) × IsSampleStudy n study × OverClauses study run text (IsSummed n study run text)
