use Rattle.std.proofs.Common.{◌≡◌, ◌<◌, ◌++◌, ℕ, length, get_or}
use Rattle.cnf.specs.declared.derivations.Line.{Line}
use Rattle.line_hints.specs.Ids.{all_added}
use Rattle.simpler_proofs.specs.Made.{NamesEach}
use Rattle.simpler_proofs.proofs.needed.are_needed.Given as goal

-- the lines before the place need each literal
abbrev pub invariant-loop-k : goal.invariant-loop-k
invariant-loop-k l = record {
  end : l.k-end ≡ length l.lines;
  each : (k : ℕ) (d : Line) → k < l.k → NamesEach (l.clauses.clauses ++ all_added l.lines) (get_or l.lines k d).step;
}
