use Rattle.std.proofs.Common.{◌≡◌, ◌++◌}
use Rattle.std.specs.List.{flat_map}
use Rattle.vocab.specs.Range.{below}
use Rattle.pages.specs.Headings.{own_name}
use Rattle.pages.proofs.headings.put_all_names.Given as goal

-- what came so far was added
abbrev pub invariant-loop-place : goal.invariant-loop-place
invariant-loop-place l = l.out ≡ l.initial.out ++ flat_map (own_name l.marked l.axioms l.count) (below l.place)
