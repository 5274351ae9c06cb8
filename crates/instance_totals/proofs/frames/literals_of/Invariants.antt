use Rattle.std.proofs.Common.{◌≡◌, length, sum_by, take}
use Rattle.instance_totals.proofs.frames.literals_of.Given as goal

-- the literals of the clauses so far
abbrev pub invariant-loop-place : goal.invariant-loop-place
invariant-loop-place l = l.literals ≡ sum_by length (take l.place l.clauses.clauses)
