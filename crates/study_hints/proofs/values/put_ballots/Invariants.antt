use Rattle.std.proofs.Common.{◌≡◌, ◌++◌}
use Rattle.std.specs.List.{flat_map}
use Rattle.vocab.specs.Range.{below}
use Rattle.study_hints.specs.Values.{ballot_constant}
use Rattle.study_hints.proofs.values.put_ballots.Given as goal

-- the ballots so far were added
abbrev pub invariant-loop-b : goal.invariant-loop-b
invariant-loop-b l = l.out ≡ l.initial.out ++ flat_map (ballot_constant l.space) (below l.b)
