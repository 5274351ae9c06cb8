use Rattle.std.proofs.Common.{◌≡◌, ◌++◌, take}
use Rattle.clause_form.specs.Factors.{prefixed}
use Rattle.clause_form.proofs.factored.push_prefixed.Given as goal

abbrev pub invariant-loop-k : goal.invariant-loop-k
invariant-loop-k l = l.out ≡ l.fn.out ++ prefixed l.first (take l.k l.more)
