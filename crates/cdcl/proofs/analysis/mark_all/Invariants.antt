use Rattle.std.proofs.Common.{◌≡◌, ℕ, true, false, length, get_or, take}
use Rattle.std.specs.Prelude.{All}
use Rattle.cdcl.specs.Analysis.{is_marked_variable}
use Rattle.cdcl.proofs.analysis.mark_all.Given as goal

abbrev pub invariant-loop-lit : goal.invariant-loop-lit
invariant-loop-lit l = record {
  variables : length l.seen ≡ length l.fn.seen;
  more : (i : ℕ) → get_or l.fn.seen i false ≡ true → get_or l.seen i false ≡ true;
  marked : All (λ n. is_marked_variable l.seen n.variable ≡ true) (take l.lit-index l.clause);
}
