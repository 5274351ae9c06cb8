use Rattle.std.proofs.Common.{◌≡◌, ◌≤◌, ◌<◌, ℕ, length, get_or}
use Rattle.cnf.specs.Signed.{Signed}
use Rattle.simpler_proofs.proofs.search.Search.are_open.Given as goal

-- the literals before the place have variables of the trail
abbrev pub invariant-loop-k : goal.invariant-loop-k
invariant-loop-k l = record {
  end : l.k-end ≡ length l.clause;
  least : (k : ℕ) (d : Signed) → k < l.k → 1 ≤ (get_or l.clause k d).variable;
  most : (k : ℕ) (d : Signed) → k < l.k → (get_or l.clause k d).variable ≤ l.self.draft.marked.trail.variables;
}
