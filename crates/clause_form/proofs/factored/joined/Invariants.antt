use Rattle.std.proofs.Common.{◌≡◌, take}
use Rattle.clause_form.specs.Factors.{each_joined}
use Rattle.clause_form.proofs.factored.joined.Given as goal

abbrev pub invariant-loop-k : goal.invariant-loop-k
invariant-loop-k l = l.clauses ≡ each_joined (take l.k l.left) l.right
