-- What is said of the bytes of a proof, by their number.
use Rattle.std.proofs.Common.{◌≡◌, ap, ℕ, ◌≤◌, true, false, List, length, Result, arith, ltb-true}
use Rattle.std.specs.Prelude.{nat_lt}
use Rattle.std.proofs.lemmas.Bool.{false_from_ne_true}
use Rattle.cnf.specs.declared.derivations.Line.{Line}
use Rattle.clause_text.specs.declared.faults.LratFault.{LratFault}
use Rattle.clause_text.specs.ReadDimacs.{Formula}
use Rattle.clause_text.specs.ReadLrat.{read_lrat}
use Rattle.answers.specs.FileLimits.{most_proof_bytes}
use Rattle.answers.specs.Lrat.{of_reading, said_of}

-- what is said of bytes within the limit is what is said of their reading
pub said_within : (formula : Formula) (bytes : List ℕ) (r : Result (List Line) LratFault) → length bytes ≤ most_proof_bytes → read_lrat formula.variables bytes ≡ r
    → said_of formula bytes ≡ of_reading formula r
said_within formula bytes r fits e =
    let short : nat_lt most_proof_bytes (length bytes) ≡ false = false_from_ne_true _ (λ long. not_long long) in
    rw short (ap (of_reading formula) e)
  where
    not_long : nat_lt most_proof_bytes (length bytes) ≡ true → ⊥
    not_long long = let lt = ltb-true most_proof_bytes (length bytes) long in omega (arith, lt, fits)
