use Rattle.std.proofs.Common.{◌≡◌, ℕ, ◌+◌, ◌*◌, ◌≤◌, length, true}
use Rattle.cnf.specs.Assignment.{value_of}
use Rattle.meaning.specs.Truth.{holds_of}
use Rattle.meaning.specs.Variables.{literal_of}
use Rattle.kind_tests.proofs.kind_checks.bits_of.Given as goal

abbrev pub invariant-loop-place : goal.invariant-loop-place
invariant-loop-place g l =
    let size = g.K.OutcomeKind.size l.kind in
    record {
      long : length l.values ≡ (l.p + 1) * l.count;
      so_far : (i : ℕ) → l.p * l.count + 1 ≤ i → i ≤ l.p * l.count + l.place → value_of l.values i ≡ holds_of size l.outcome (literal_of size (record { variable = i; positive = true }));
    }
