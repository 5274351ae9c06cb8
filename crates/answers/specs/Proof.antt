-- `proof STUDY`.
use Rattle.std.specs.Prelude.{◌≡◌, List, ℕ, codes, IsTrue}
use Rattle.edge.specs.Shelf.{Files}
use Rattle.vocab.specs.Study.{Question}
use Rattle.cnf.specs.declared.derivations.Line.{Line}
use Rattle.cnf.specs.Fresh.{AreOver}
use Rattle.cnf.specs.Trimmed.{is_trimmed}
use Rattle.meaning.specs.Variables.{variable_count}
use Rattle.verdicts.specs.declared.verdicts.Verdict.TheVariants.{Possible}
use Rattle.clause_text.specs.Lrat.{lrat_text}
use Rattle.answers.specs.declared.runs.Run.{Run}
use Rattle.answers.specs.Runs.{IsBare}
use Rattle.answers.specs.Studies.{OverStudy}
use Rattle.answers.specs.Grounding.{all_clauses, OverClauses}
use Rattle.answers.specs.Evidence.{IsFound, IsUndecided}

-- a derivation refutes the clauses of all axioms: it is trimmed, and so accepted, and has no other variable
pub record Refutes (study : Question) (lines : List Line) : Type 0 where
  pub trimmed : IsTrue (is_trimmed (all_clauses study) lines)
  pub over : AreOver (variable_count study.size) lines

-- the run and the text answer `proof` over the study: the text is a refutation of its clauses; or a rule was
-- found that satisfies all axioms; or nothing was found
pub data Proves (study : Question) (run : Run) (text : List ℕ) : Type 0 where
  refuted : (lines : List Line) → Refutes study lines → IsBare run 0 → text ≡ lrat_text lines
      → Proves study run text
  possible : (table : List ℕ) → IsFound study run (Possible table) → text ≡ codes "c possible\n"
      → Proves study run text
  undecided : IsUndecided study run → text ≡ codes "c undecided\n" → Proves study run text

abbrev pub IsProved : Files → List ℕ → Run → List ℕ → Type 0
IsProved files name run text =
    OverStudy files name run text (λ study. OverClauses study run text (Proves study run text))
