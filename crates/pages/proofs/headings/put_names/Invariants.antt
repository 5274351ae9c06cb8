use Rattle.std.proofs.Common.{◌≡◌, ◌++◌}
use Rattle.std.specs.List.{flat_map}
use Rattle.vocab.specs.Range.{below}
use Rattle.pages.specs.Headings.{name_in}
use Rattle.pages.proofs.headings.put_names.Given as goal

-- what came so far was added
abbrev pub invariant-loop-place : goal.invariant-loop-place
invariant-loop-place l = l.out ≡ l.initial.out ++ flat_map (name_in l.marked l.axioms l.places) (below l.place)
