use Rattle.std.proofs.Common.{◌≡◌, ◌++◌, map, take}
use Rattle.axiom_sets.specs.Next.{goes_beyond}
use Rattle.axiom_sets.proofs.asking.push_beyond.Given as goal

-- the clauses of the sets so far were added
abbrev pub invariant-loop-set : goal.invariant-loop-set
invariant-loop-set l = l.clauses.clauses ≡ l.fn.clauses.clauses ++ map (goes_beyond l.count) (take l.set-index l.sets)
