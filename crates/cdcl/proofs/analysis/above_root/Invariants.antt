use Rattle.std.proofs.Common.{◌≡◌, List, length, take}
use Rattle.std.specs.Prelude.{All}
use Rattle.cnf.specs.Signed.{Signed}
use Rattle.propagate.specs.Values.{AllFail}
use Rattle.cdcl.specs.Analysis.{IsBelow, RootHolds}
use Rattle.cdcl.proofs.analysis.above_root.Given as goal

abbrev pub invariant-loop-lit : goal.invariant-loop-lit
invariant-loop-lit l = record {
  variables : length l.seen ≡ l.trail.variables;
  below : All (IsBelow l.trail) l.kept.items;
  fails : (k : List Signed) → AllFail k l.kept.items → RootHolds k l.trail (length l.trail.entries) l.seen → AllFail k (take l.lit-index l.lower);
}
