use Rattle.std.proofs.Common.{◌≡◌, ◌++◌}
use Rattle.std.specs.List.{flat_map}
use Rattle.vocab.specs.Range.{below}
use Rattle.pages.specs.Theorem.{listed_ballot_html}
use Rattle.pages.proofs.theorem.put_all_ballots.Given as goal

-- what came so far was added
abbrev pub invariant-loop-b : goal.invariant-loop-b
invariant-loop-b l = l.out ≡ l.initial.out ++ flat_map (listed_ballot_html l.space) (below l.b)
