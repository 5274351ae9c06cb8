use Rattle.std.proofs.Common.{◌≡◌, ◌<◌, ◌++◌, ℕ, length, get_or}
use Rattle.cnf.specs.Signed.{Signed}
use Rattle.line_hints.specs.Ids.{all_added}
use Rattle.simpler_proofs.specs.Made.{IsNamed}
use Rattle.simpler_proofs.proofs.needed.are_named.Given as goal

-- the literals before the place stand in clauses of hints
abbrev pub invariant-loop-k : goal.invariant-loop-k
invariant-loop-k l = record {
  end : l.k-end ≡ length l.clause;
  each : (k : ℕ) (d : Signed) → k < l.k → IsNamed (l.clauses.clauses ++ all_added l.lines) l.hints (get_or l.clause k d);
}
