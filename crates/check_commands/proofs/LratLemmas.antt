-- `lrat`, from what is read to what is said.
use Rattle.std.proofs.Common.{◌≡◌, ◌≢◌, refl, ℕ, ◌≤◌, List, [], ◌∷◌, length, Option, None, Some, IfSome, Result, Ok, Err, IfOk}
use Rattle.edge.specs.Shelf.{Files}
use Rattle.clause_text.specs.declared.faults.CnfFault.{CnfFault}
use Rattle.clause_text.specs.declared.faults.CnfFault.TheVariants as cnf
use Rattle.clause_text.specs.CnfReadings.{IsCnfRefused}
use Rattle.clause_text.specs.ReadDimacs.{Formula, read_dimacs}
use Rattle.words.specs.Words.{Lrat}
use Rattle.answers.specs.FileLimits.{most_cnf_bytes}
use Rattle.answers.specs.Lrat.{GivesFormula, RefusesFormula, no_formula, cnf_line, IsLratAnswer, formula_refused, proof_judged}
use Rattle.answers.specs.Call.{AreFiles, are_told, none_read}
use Rattle.command_parts.specs.declared.answer.Answer.{Answer}
use Rattle.command_parts.specs.declared.answer.Stop.{Stop}
use Rattle.command_parts.specs.Answers.{run_of, text_of}
use Rattle.command_parts.specs.GivenProof.{IsProofSaid}
use Rattle.check_commands.specs.Given.{IsCnf, RefusesCnf}
use Rattle.command_parts.proofs.OpenLemmas.{if_some}
use Rattle.command_parts.proofs.PairLemmas.{IsPairCommand}

pub lrat_command : (name proof : List ℕ) → IsPairCommand (Some (Lrat name proof)) name proof
lrat_command name proof = record { two = refl; statuses = refl }

-- ---- the clauses

-- a refusal other than want of memory is the one of the text
pub cnf_refused : (fault : CnfFault) (wanted : Result Formula CnfFault) → fault ≢ cnf.NoMemory → IsCnfRefused fault wanted → wanted ≡ Err fault
cnf_refused cnf.NoMemory wanted known is = absurd (known refl)
cnf_refused fault wanted known is = is

-- bytes that give no clauses
pub refuses_cnf : (told : Option Files) (name bytes text : List ℕ) (fault : CnfFault) → IfSome told (λ files. files name ≡ Some bytes) → length bytes ≤ most_cnf_bytes
    → read_dimacs bytes ≡ Err fault → text ≡ cnf_line fault → (files : Files) → told ≡ Some files → RefusesFormula files name text
refuses_cnf told name bytes text fault h fits bad t files e =
    no_formula bytes fault (record { held = if_some told (λ files. files name ≡ Some bytes) files h e; fits = fits }) bad t

-- ---- the row

module _ (told : Option Files) (name proof : List ℕ) where
  given : (formula : Formula) (files : Files) → IsCnf told name formula → told ≡ Some files → GivesFormula files name formula
  given formula files read e = record { bytes = read.bytes; holds = record { held = read.held files e; fits = read.fits }; read = read.gives }

  -- clauses that were read are taken
  pub cnf_taken : (formula : Formula) → IsCnf told name formula → IfSome told (λ files. (formula : Formula) × GivesFormula files name formula)
  cnf_taken formula read = go told refl
    where
      go : (o : Option Files) → told ≡ o → IfSome o (λ files. (formula : Formula) × GivesFormula files name formula)
      go None e = tt
      go (Some files) e = (formula, given formula files read e)

  -- the proof is judged over them
  pub said_rows : (formula : Formula) (result : Result Answer Stop) → IsCnf told name formula
      → IfOk result (λ answer. (files : Files) → told ≡ Some files → IsProofSaid files proof formula (run_of answer) (text_of answer))
      → (files : Files) → AreFiles told (name ∷ proof ∷ []) files → IfOk result (λ answer. IsLratAnswer files name proof (run_of answer) (text_of answer))
  said_rows formula (Ok answer) read said files (are_told e) =
      let s = said files e in proof_judged formula s.bytes (given formula files read e) s.held s.ends s.is
  said_rows formula (Ok answer) read said files (none_read e) = absurd (cc)
  said_rows formula (Err stop) read said files h = tt

  -- the clauses are refused
  pub refused_row : (answer : Answer) → RefusesCnf told name answer → (files : Files) → AreFiles told (name ∷ proof ∷ []) files
      → IsLratAnswer files name proof (run_of answer) (text_of answer)
  refused_row answer refuses files (are_told e) = formula_refused (refuses.line files e) refuses.bare
  refused_row answer refuses files (none_read e) = absurd (cc)
