use Rattle.std.proofs.Common.{◌≡◌, ◌++◌, take, reverse}
use Rattle.clause_form.specs.Factors.{prefixed}
use Rattle.clause_form.proofs.factored.push_behind.Given as goal

abbrev pub invariant-loop-k : goal.invariant-loop-k
invariant-loop-k l = l.out ≡ l.fn.out ++ prefixed (reverse l.prefix) (take l.k l.rests)
