use Rattle.std.specs.Prelude.{IfSome}
use Rattle.cnf.specs.Fresh.{AreOver}
use Rattle.simpler_proofs.specs.Made.{EachPasses, IsProof, is_pair}
use Rattle.simpler_proofs.proofs.paired.with_fewer_lines.Given as goal

abbrev pub invariant-loop-turn : goal.invariant-loop-turn
invariant-loop-turn l = record {
  proof : IfSome l.best (IsProof l.formula.clauses.now.clauses);
  over : IfSome l.best (AreOver l.formula.variables);
  pairs : IfSome l.best (EachPasses is_pair);
}
