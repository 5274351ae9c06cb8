-- `lrat CNF PROOF`.
use Rattle.std.specs.Prelude.{◌≡◌, List, ℕ, nat_lt, length, [], ◌∷◌, ◌++◌, codes, Option, None, Some, Result, Ok, Err, if◌then◌else◌}
use Rattle.std.specs.Fmt.{decimal}
use Rattle.edge.specs.Shelf.{Files}
use Rattle.cnf.specs.declared.derivations.Line.{Line}
use Rattle.cnf.specs.declared.derivations.LineFault.{LineFault}
use Rattle.cnf.specs.declared.derivations.LineFault.TheVariants.{Id, Hint, NotUnit, NoConflict, NotEmpty}
use Rattle.cnf.specs.Derived.{first_fault}
use Rattle.clause_text.specs.declared.faults.CnfFault.{CnfFault}
use Rattle.clause_text.specs.declared.faults.CnfFault.TheVariants as cnf
use Rattle.clause_text.specs.declared.faults.LratFault.{LratFault}
use Rattle.clause_text.specs.declared.faults.LratFault.TheVariants as lrat
use Rattle.clause_text.specs.ReadDimacs.{Formula, read_dimacs}
use Rattle.clause_text.specs.ReadLrat.{read_lrat}
use Rattle.answers.specs.declared.runs.Run.{Run}
use Rattle.answers.specs.Runs.{IsBare}
use Rattle.answers.specs.FileLimits.{most_cnf_bytes, most_proof_bytes, HasFile, HoldsTooMany}

-- ---- the clauses

-- why a text gives no clauses; want of memory is never told
abbrev pub cnf_fault_text : CnfFault → List ℕ
cnf_fault_text cnf.Header = codes "header"
cnf_fault_text (cnf.Literal line) = codes "literal " ++ decimal line
cnf_fault_text (cnf.Count found) = codes "count " ++ decimal found
cnf_fault_text cnf.Full = codes "full"
cnf_fault_text cnf.NoMemory = []

-- the line of a text of clauses that is refused
abbrev pub cnf_line : CnfFault → List ℕ
cnf_line fault = codes "cnf: " ++ (cnf_fault_text fault ++ 10 ∷ [])

-- the file gives these clauses
pub record GivesFormula (files : Files) (name : List ℕ) (formula : Formula) : Type 0 where
  pub bytes : List ℕ
  pub holds : HasFile files most_cnf_bytes name bytes
  pub read : read_dimacs bytes ≡ Ok formula

-- the file is refused with this line
pub data RefusesFormula (files : Files) (name text : List ℕ) : Type 0 where
  too_long : HoldsTooMany files most_cnf_bytes name → text ≡ codes "cnf: too long\n"
      → RefusesFormula files name text
  no_formula : (bytes : List ℕ) (fault : CnfFault) → HasFile files most_cnf_bytes name bytes
      → read_dimacs bytes ≡ Err fault
      → text ≡ cnf_line fault → RefusesFormula files name text

-- ---- the proof

-- why a line of a derivation is refused
abbrev pub line_fault_text : LineFault → List ℕ
line_fault_text Id = codes "id"
line_fault_text (Hint id) = codes "hint " ++ decimal id
line_fault_text (NotUnit id) = codes "not_unit " ++ decimal id
line_fault_text NoConflict = codes "no_conflict"
line_fault_text NotEmpty = codes "not_empty"

-- the line of a proof that is refused at one of its lines
abbrev pub proof_line : ℕ → List ℕ → List ℕ
proof_line line word = codes "proof line " ++ (decimal line ++ (codes ": " ++ (word ++ 10 ∷ [])))

-- what is said of a proof: its status and its text
pub record Said : Type 0 where
  pub status : ℕ
  pub text : List ℕ

abbrev pub refused : List ℕ → Said
refused text = record { status = 1; text = text }

-- by the first faulty line of the derivation
abbrev pub of_derivation : Option (ℕ × LineFault) → Said
of_derivation None = record { status = 0; text = codes "confirmed\n" }
of_derivation (Some (line, fault)) = refused (proof_line line (line_fault_text fault))

-- of a text that gives no derivation; want of memory is never told
abbrev pub reading_text : LratFault → List ℕ
reading_text (lrat.Line line) = proof_line line (codes "line")
reading_text (lrat.Rat line) = proof_line line (codes "rat")
reading_text lrat.NoMemory = []

-- by what the text gives
abbrev pub of_reading : Formula → Result (List Line) LratFault → Said
of_reading formula (Ok lines) = of_derivation (first_fault formula.clauses lines)
of_reading formula (Err fault) = refused (reading_text fault)

-- what is said of the bytes of a proof
abbrev pub said_of : Formula → List ℕ → Said
said_of formula bytes =
    if nat_lt most_proof_bytes (length bytes)
    then refused (codes "proof: too long\n")
    else of_reading formula (read_lrat formula.variables bytes)

-- ---- the row

-- the file of the clauses is refused; or the text is what is said of the bytes of the proof, confirmed or not
pub data IsLratAnswer (files : Files) (name proof : List ℕ) (run : Run) (text : List ℕ) : Type 0 where
  formula_refused : RefusesFormula files name text → IsBare run 3 → IsLratAnswer files name proof run text
  proof_judged : (formula : Formula) (bytes : List ℕ) → GivesFormula files name formula
      → files proof ≡ Some bytes
      → IsBare run (said_of formula bytes).status → text ≡ (said_of formula bytes).text
      → IsLratAnswer files name proof run text
