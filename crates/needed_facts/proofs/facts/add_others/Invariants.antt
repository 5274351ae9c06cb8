use Rattle.std.proofs.Common.{◌≡◌, ◌++◌, take}
use Rattle.needed_facts.proofs.facts.add_others.Given as goal

-- the others so far were added
abbrev pub invariant-loop-other : goal.invariant-loop-other
invariant-loop-other l = (l.tried.size ≡ l.fn.tried.size) × (l.tried.literals ≡ l.fn.tried.literals ++ take l.other-index l.others)
