use Rattle.std.proofs.Common.{◌≡◌, ◌≤◌, take}
use Rattle.std.specs.Prelude.{count_by}
use Rattle.story_pages.specs.Claims.{is_stated}
use Rattle.story_pages.proofs.claims.count_stated.Given as goal

-- the steps so far were counted
abbrev pub invariant-loop-placed : goal.invariant-loop-placed
invariant-loop-placed l = (l.count ≡ count_by (is_stated l.number l.head) (take l.placed-index l.steps)) × (l.count ≤ l.placed-index)
