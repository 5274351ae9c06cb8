-- The clauses of all axioms of a study: which they are, or the line by which they are refused.
use Rattle.std.specs.Prelude.{◌≡◌, ℕ, List, [], ◌∷◌, ◌++◌, codes, Option, None, Some}
use Rattle.std.specs.Fmt.{decimal}
use Rattle.vocab.specs.Study.{Question}
use Rattle.cnf.specs.Sat.{Clause}
use Rattle.meaning.specs.declared.clauses.Counts.{Counts}
use Rattle.meaning.specs.StudyClauses.{clauses_for}
use Rattle.clause_form.specs.declared.refusals.GroundFault.{GroundFault}
use Rattle.clause_form.specs.declared.refusals.GroundFault.TheVariants.{Wide, Full, NoMemory}
use Rattle.clause_form.specs.Refusals.{ground_fault}
use Rattle.verdicts.specs.Lines.{name_at}
use Rattle.search_logs.specs.Spent.{all_places}
use Rattle.answers.specs.declared.runs.Run.{Run}
use Rattle.answers.specs.Runs.{IsBare}
use Rattle.answers.specs.StudyLines.{of_axiom}

-- the clauses of all axioms of a study
abbrev pub all_clauses : Question → List Clause
all_clauses study = clauses_for study.size study.axioms (all_places study)

-- what is refused of them
abbrev pub clauses_fault : Question → Option GroundFault
clauses_fault study = ground_fault study.size study.axioms (all_places study)

-- an instance with its numbers of clauses and of literals
abbrev pub wide_text : ℕ → Counts → List ℕ
wide_text instance counts =
    codes "wide " ++ (decimal instance ++ (32 ∷ (decimal counts.clauses ++ (32 ∷ decimal counts.literals))))

-- a refusal, by the name of its axiom; want of memory is never told
abbrev pub clause_refusal_text : Question → GroundFault → List ℕ
clause_refusal_text study (Wide place instance counts) =
    of_axiom (name_at study.axioms place) (wide_text instance counts)
clause_refusal_text study (Full place) = of_axiom (name_at study.axioms place) (codes "full")
clause_refusal_text study NoMemory = []

-- the line of a refusal
abbrev pub refusal_line : Question → GroundFault → List ℕ
refusal_line study fault = codes "study: " ++ (clause_refusal_text study fault ++ 10 ∷ [])

-- a command over the clauses of all axioms: they are refused, or the rest holds
pub data OverClauses (study : Question) (run : Run) (text : List ℕ) (IsRest : Type 0) : Type 0 where
  clauses_refused : (fault : GroundFault) → clauses_fault study ≡ Some fault → text ≡ refusal_line study fault
      → IsBare run 3
      → OverClauses study run text IsRest
  clauses_made : clauses_fault study ≡ None → IsRest → OverClauses study run text IsRest
