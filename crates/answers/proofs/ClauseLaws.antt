-- What `export`, `proof` and `lrat` say of rules and of assignments.
use Rattle.std.proofs.Common.{◌≡◌, ◌∙◌, ◌↔◌, refl, sym, subst, ℕ, Bool, true, false, List, length, Option, None, Some, Result, Ok, Err, arith}
use Rattle.std.specs.Prelude.{IsTrue, nat_lt}
use Rattle.edge.specs.Shelf.{Files}
use Rattle.vocab.specs.Study.{Question}
use Rattle.cnf.specs.declared.derivations.Line.{Line}
use Rattle.cnf.specs.declared.derivations.LineFault.{LineFault}
use Rattle.cnf.specs.Derived.{IsAccepted, first_fault}
use Rattle.cnf.specs.Sat.{IsUnsatisfiable, is_satisfied}
use Rattle.cnf.proofs.SoundLaws.{accepted_unsatisfiable}
use Rattle.cnf.proofs.TrimmedLaws.{trimmed_accepted}
use Rattle.meaning.proofs.RuleLaws.{are_satisfiable}
use Rattle.meaning.proofs.SpaceLaws.{all_below}
use Rattle.study.proofs.WholeStudies.{studies_whole}
use Rattle.clause_text.specs.declared.faults.LratFault.{LratFault}
use Rattle.clause_text.specs.ReadDimacs.{Formula}
use Rattle.clause_text.specs.ReadLrat.{read_lrat}
use Rattle.search_logs.specs.Spent.{all_places}
use Rattle.answers.specs.declared.runs.Run.{Run}
use Rattle.answers.specs.FileLimits.{most_proof_bytes}
use Rattle.answers.specs.Studies.{GivesStudy}
use Rattle.verdicts.specs.Claims.{IsRuleFor, HasNoRule}
use Rattle.answers.specs.Grounding.{all_clauses}
use Rattle.answers.specs.Export.{IsWritten}
use Rattle.answers.specs.Proof.{Proves, refuted, possible, undecided}
use Rattle.answers.specs.Lrat.{GivesFormula, IsLratAnswer, formula_refused, proof_judged, said_of, of_reading, of_derivation}
use Rattle.answers.specs.RowLaws.{ExportedSaysStudy, IsProofRight, a_refutation, its_rule, ProvedHolds, ConfirmedIsUnsatisfiable}
use Rattle.answers.proofs.RowLemmas.{granted, one_formula}

-- the clauses of all axioms are satisfiable exactly where some rule satisfies them
pub clauses_mean : (files : Files) (name : List ℕ) (study : Question) → GivesStudy files name study
    → ((v : ℕ → Bool) × IsTrue (is_satisfied v (all_clauses study))) ↔ ((table : List ℕ) × IsRuleFor study table)
clauses_mean files name study g =
    are_satisfiable study.size study.axioms (studies_whole g.bytes study g.read).0.sentences (all_places study) (all_below (length study.axioms))

pub exported_says : ExportedSaysStudy
exported_says files name run text study row g zero_is = record {
  is = (granted files name run text (λ s. IsWritten s run text) study g zero_is row).1;
  means = clauses_mean files name study g;
}

-- ---- `proof`

-- an accepted derivation from the clauses leaves no rule
refutes_all : (files : Files) (name : List ℕ) (study : Question) (lines : List Line) → GivesStudy files name study → IsAccepted (all_clauses study) lines → HasNoRule study (all_places study)
refutes_all files name study lines g accepted table holds =
    let assignment = (clauses_mean files name study g).1 (table, holds) in
    accepted_unsatisfiable (all_clauses study) lines accepted assignment.0 assignment.1

shown_right : (files : Files) (name : List ℕ) (study : Question) (run : Run) (text : List ℕ) → GivesStudy files name study → run.status ≡ 0 → Proves study run text → IsProofRight study run text
shown_right files name study run text g zero_is (refuted lines r bare is) =
    let accepted = trimmed_accepted (all_clauses study) lines r.trimmed in
    a_refutation lines bare.no_verdict is accepted (refutes_all files name study lines g accepted)
shown_right files name study run text g zero_is (possible table f is) = its_rule table f.told is f.right
shown_right files name study run text g zero_is (undecided u is) = let four : 0 ≡ 4 = sym zero_is ∙ u.ends in absurd (omega (arith, four))

pub proved_hold : ProvedHolds
proved_hold files name run text study row g zero_is =
    shown_right files name study run text g zero_is (granted files name run text (λ s. Proves s run text) study g zero_is row)

-- ---- `lrat`

-- status 0 says that the derivation is accepted
accepted_at : (formula : Formula) (lines : List Line) (o : Option (ℕ × LineFault)) → first_fault formula.clauses lines ≡ o → (of_derivation o).status ≡ 0 → IsAccepted formula.clauses lines
accepted_at formula lines None e zero_is = e
accepted_at formula lines (Some fault) e zero_is = absurd (omega (arith, zero_is))

accepted_reading : (formula : Formula) (r : Result (List Line) LratFault) → (of_reading formula r).status ≡ 0 → (lines : List Line) × IsAccepted formula.clauses lines
accepted_reading formula (Ok lines) e = (lines, accepted_at formula lines (first_fault formula.clauses lines) refl e)
accepted_reading formula (Err fault) e = absurd (omega (arith, e))

accepted_said : (formula : Formula) (bytes : List ℕ) (b : Bool) → nat_lt most_proof_bytes (length bytes) ≡ b → (said_of formula bytes).status ≡ 0
    → (lines : List Line) × IsAccepted formula.clauses lines
accepted_said formula bytes true long e = let one : (said_of formula bytes).status ≡ 1 = rw long refl in absurd (omega (arith, one, e))
accepted_said formula bytes false long e = accepted_reading formula (read_lrat formula.variables bytes) (rw long at e)

module _ (files : Files) (name proof : List ℕ) (run : Run) (text : List ℕ) (formula : Formula) (g : GivesFormula files name formula) (zero_is : run.status ≡ 0) where
  confirmed_row : IsLratAnswer files name proof run text → IsUnsatisfiable formula.clauses
  confirmed_row (formula_refused r bare) = let three : 0 ≡ 3 = sym zero_is ∙ bare.ends in absurd (omega (arith, three))
  confirmed_row (proof_judged f bytes h held bare is) =
      let same : f ≡ formula = one_formula files name f formula h g in
      let found = accepted_said f bytes _ refl (sym bare.ends ∙ zero_is) in
      subst (λ (q : Formula). IsUnsatisfiable q.clauses) same (accepted_unsatisfiable f.clauses found.0 found.1)

pub confirmed_unsatisfiable : ConfirmedIsUnsatisfiable
confirmed_unsatisfiable files name proof run text formula row g zero_is = confirmed_row files name proof run text formula g zero_is row
