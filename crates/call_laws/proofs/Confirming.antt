-- What `lrat` confirms.
use Rattle.std.proofs.Common.{◌≡◌, ◌∙◌, refl, sym, ap, subst, ℕ, ◌≤◌, Bool, true, false, List, Option, None, Some, Result, Ok, Err, arith, ltb-false}
use Rattle.std.specs.Prelude.{nat_lt, length}
use Rattle.std.specs.Io.KnownBytes.{Appends}
use Rattle.edge.specs.Shelf.{Files}
use Rattle.cnf.specs.declared.derivations.Line.{Line}
use Rattle.cnf.specs.declared.derivations.LineFault.{LineFault}
use Rattle.cnf.specs.Derived.{IsAccepted, first_fault}
use Rattle.cnf.proofs.SoundLaws.{accepted_unsatisfiable}
use Rattle.clause_text.specs.declared.faults.LratFault.{LratFault}
use Rattle.clause_text.specs.ReadDimacs.{Formula}
use Rattle.clause_text.specs.ReadLrat.{read_lrat}
use Rattle.answers.specs.declared.runs.Run.{Run}
use Rattle.answers.specs.Devices.{Devices}
use Rattle.answers.specs.FileLimits.{most_proof_bytes}
use Rattle.answers.specs.Lrat.{IsLratAnswer, formula_refused, proof_judged, of_derivation, of_reading, said_of}
use Rattle.answers.proofs.ConfirmedLaws.{said_accepted}
use Rattle.answers.proofs.RowLemmas.{not_three}
use Rattle.call_laws.specs.Laws.{IsRefutationConfirmed}

zero_derivation : (fault : Option (ℕ × LineFault)) → (of_derivation fault).status ≡ 0 → fault ≡ None
zero_derivation None e = refl
zero_derivation (Some (line, fault)) e = absurd (omega (arith, e))

zero_reading : (formula : Formula) (reading : Result (List Line) LratFault) → (of_reading formula reading).status ≡ 0
    → (lines : List Line) × (reading ≡ Ok lines) × IsAccepted formula.clauses lines
zero_reading formula (Ok lines) e = (lines, refl, zero_derivation (first_fault formula.clauses lines) e)
zero_reading formula (Err fault) e = absurd (omega (arith, e))

-- the bytes of a proof are within their limit, and give a derivation that is accepted
abbrev GivesRefutation : Formula → List ℕ → Type 0
GivesRefutation formula bytes = (length bytes ≤ most_proof_bytes) × (lines : List Line) × (read_lrat formula.variables bytes ≡ Ok lines) × IsAccepted formula.clauses lines

-- status 0 says so
zero_said : (formula : Formula) (bytes : List ℕ) (long : Bool) → nat_lt most_proof_bytes (length bytes) ≡ long → (said_of formula bytes).status ≡ 0 → GivesRefutation formula bytes
zero_said formula bytes true long e = let one : (said_of formula bytes).status ≡ 1 = rw long refl in absurd (omega (arith, one, e))
zero_said formula bytes false short e =
    let r = zero_reading formula (read_lrat formula.variables bytes) (rw short at e) in
    (ltb-false most_proof_bytes (length bytes) short, r.0, r.1, r.2)

pub confirmed_row : (d : Devices) (files : Files) (name proof : List ℕ) (run : Run) (text : List ℕ) → run.status ≡ 0 → Appends d.taken_before d.taken_now text
    → IsLratAnswer files name proof run text → IsRefutationConfirmed d files name proof
confirmed_row d files name proof run text zero_is written (formula_refused r bare) = absurd (not_three run zero_is bare)
confirmed_row d files name proof run text zero_is written (proof_judged formula bytes g held bare is) =
    let c = zero_said formula bytes (nat_lt most_proof_bytes (length bytes)) refl (sym bare.ends ∙ zero_is) in
    let said = said_accepted formula bytes c.0 (record { lines = c.1; read = c.2; accepted = c.3 }) in
    record {
      formula = formula;
      given = g;
      bytes = bytes;
      holds = record { held = held; fits = c.0 };
      lines = c.1;
      read = c.2;
      accepted = c.3;
      refuted = accepted_unsatisfiable formula.clauses c.1 c.3;
      written = subst (λ (t : List ℕ). Appends d.taken_before d.taken_now t) (is ∙ ap (λ s. s.text) said) written;
    }
