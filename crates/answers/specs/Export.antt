-- `export STUDY`.
use Rattle.std.specs.Prelude.{◌≡◌, List, ℕ}
use Rattle.edge.specs.Shelf.{Files}
use Rattle.vocab.specs.Study.{Question}
use Rattle.meaning.specs.Variables.{variable_count}
use Rattle.clause_text.specs.Dimacs.{size_text, dimacs_text}
use Rattle.clause_text.specs.ReadDimacs.{Formula}
use Rattle.answers.specs.declared.runs.Run.{Run}
use Rattle.answers.specs.Runs.{IsBare}
use Rattle.answers.specs.Studies.{OverStudy}
use Rattle.answers.specs.Grounding.{all_clauses, OverClauses}

-- the text of the clauses of all axioms
abbrev pub export_text : Question → List ℕ
export_text study = dimacs_text (size_text study.size) (variable_count study.size) (all_clauses study)

-- what that text gives where it is read
abbrev pub exported_formula : Question → Formula
exported_formula study = record { variables = variable_count study.size; clauses = all_clauses study }

-- the text is that of the clauses
abbrev pub IsWritten : Question → Run → List ℕ → Type 0
IsWritten study run text = IsBare run 0 × (text ≡ export_text study)

abbrev pub IsExported : Files → List ℕ → Run → List ℕ → Type 0
IsExported files name run text =
    OverStudy files name run text (λ study. OverClauses study run text (IsWritten study run text))
