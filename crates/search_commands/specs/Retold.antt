-- What comes of a derivation from the clauses of a study.
use Rattle.std.specs.Prelude.{◌≡◌, ℕ, List, Some}
use Rattle.vocab.specs.Study.{Question}
use Rattle.cnf.specs.declared.derivations.Line.{Line}
use Rattle.cnf.specs.declared.derivations.LineFault.{LineFault}
use Rattle.cnf.specs.Derived.{IsAccepted, first_fault}
use Rattle.answers.specs.Adopt.{IsRetold}
use Rattle.answers.specs.Grounding.{all_clauses}
use Rattle.answers.specs.Lrat.{line_fault_text, proof_line}
use Rattle.answers.specs.Runs.{IsBare}
use Rattle.command_parts.specs.declared.answer.Answer.{Answer}
use Rattle.command_parts.specs.Answers.{run_of, text_of}

-- it is accepted and retold; or refused at its first faulty line
pub data IsDerivationJudged (study : Question) (lines : List Line) (answer : Answer) : Type 0 where
  lines_retold : IsAccepted (all_clauses study) lines → IsRetold study lines (run_of answer) (text_of answer)
      → IsDerivationJudged study lines answer
  line_refused : (at : ℕ) (fault : LineFault) → first_fault (all_clauses study) lines ≡ Some (at, fault)
      → text_of answer ≡ proof_line at (line_fault_text fault) → IsBare (run_of answer) 1
      → IsDerivationJudged study lines answer
