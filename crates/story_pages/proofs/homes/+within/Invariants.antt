use Rattle.std.proofs.Common.{◌≡◌, ◌++◌, ◌+◌, ◌*◌, take}
use Rattle.std.specs.List.{flat_map}
use Rattle.vocab.specs.Range.{below}
use Rattle.story_pages.specs.Homes.{held_step, story_item, inner_at}
use Rattle.story_pages.proofs.homes.+within.Given as goal

-- the depth goes down from a lemma to those within it
abbrev pub decreases-put_inner_at : goal.decreases-put_inner_at
decreases-put_inner_at l = 8 * l.depth

abbrev pub decreases-put_inner_of : goal.decreases-put_inner_of
decreases-put_inner_of l = 8 * l.depth + 7

abbrev pub decreases-put_inner : goal.decreases-put_inner
decreases-put_inner l = 8 * l.depth + 6

abbrev pub decreases-put_body : goal.decreases-put_body
decreases-put_body l = 8 * l.depth + 5

abbrev pub decreases-put_story_items : goal.decreases-put_story_items
decreases-put_story_items l = 8 * l.depth + 4

abbrev pub decreases-put_story_item : goal.decreases-put_story_item
decreases-put_story_item l = 8 * l.depth + 3

abbrev pub decreases-put_held_steps : goal.decreases-put_held_steps
decreases-put_held_steps l = 8 * l.depth + 2

abbrev pub decreases-put_held : goal.decreases-put_held
decreases-put_held l = 8 * l.depth + 1

-- what came so far was added
abbrev pub invariant-put_story_items-loop-number : goal.invariant-put_story_items-loop-number
invariant-put_story_items-loop-number l = l.out ≡ l.initial.out ++ flat_map (story_item l.space l.axioms l.told (inner_at l.space l.axioms l.story l.told l.depth) l.home l.telling) (below l.number)

abbrev pub invariant-put_held_steps-loop-placed : goal.invariant-put_held_steps-loop-placed
invariant-put_held_steps-loop-placed l = l.out ≡ l.initial.out ++ flat_map (held_step l.told (inner_at l.space l.axioms l.story l.told l.depth) l.home l.number) (take l.placed-index l.steps)
