use Rattle.std.proofs.Common.{◌≡◌, ◌++◌}
use Rattle.std.specs.List.{flat_map}
use Rattle.vocab.specs.Formula.{prefix_of}
use Rattle.vocab.specs.Range.{below}
use Rattle.vocab.specs.Tree.{tree_of}
use Rattle.story_pages.specs.Ends.{value_at}
use Rattle.story_pages.proofs.ends.put_prefixed.Given as goal

-- what came so far was added
abbrev pub invariant-loop-level : goal.invariant-loop-level
invariant-loop-level l = l.out ≡ l.initial.out ++ flat_map (value_at l.space (prefix_of (tree_of l.formula)) l.values) (below l.level)
