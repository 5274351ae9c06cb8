use Rattle.std.proofs.Common.{◌≡◌, ◌++◌}
use Rattle.std.specs.List.{flat_map}
use Rattle.vocab.specs.Range.{below}
use Rattle.story_pages.specs.Sentences.{item_at}
use Rattle.story_pages.proofs.sentences.put_items.Given as goal

-- what came so far was added
abbrev pub invariant-loop-number : goal.invariant-loop-number
invariant-loop-number l = l.out ≡ l.initial.out ++ flat_map (item_at l.space l.axioms l.passage) (below l.number)
