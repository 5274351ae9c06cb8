use Rattle.std.proofs.Common.{◌≡◌, ◌++◌, take}
use Rattle.std.specs.List.{flat_map}
use Rattle.story_pages.specs.Claims.{placed_html}
use Rattle.story_pages.proofs.claims.put_all_placed.Given as goal

-- what came so far was added
abbrev pub invariant-loop-placed : goal.invariant-loop-placed
invariant-loop-placed l = l.out ≡ l.initial.out ++ flat_map (placed_html l.space l.count l.number l.head) (take l.placed-index l.steps)
