use Rattle.std.proofs.Common.{◌≡◌, ◌++◌, map, take}
use Rattle.axiom_sets.specs.Next.{lacks_some}
use Rattle.axiom_sets.proofs.asking.push_lacking.Given as goal

-- the clauses of the sets so far were added
abbrev pub invariant-loop-set : goal.invariant-loop-set
invariant-loop-set l = l.clauses.clauses ≡ l.fn.clauses.clauses ++ map lacks_some (take l.set-index l.sets)
