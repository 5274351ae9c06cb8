use Rattle.std.proofs.Common.{◌≡◌, ◌<◌, ℕ, length, get_or}
use Rattle.cnf.specs.declared.derivations.Line.{Line}
use Rattle.simpler_proofs.specs.Made.{HasHintsOf}
use Rattle.simpler_proofs.proofs.ordering.are_reordered.Given as goal

-- the lines before the place have the hints of the given ones
abbrev pub invariant-loop-k : goal.invariant-loop-k
invariant-loop-k l = record {
  end : l.k-end ≡ length l.given;
  count : length l.lines ≡ length l.given;
  each : (k : ℕ) (d : Line) → k < l.k → HasHintsOf (get_or l.given k d).step (get_or l.lines k d).step;
}
