use Rattle.std.proofs.Common.{◌≡◌, ◌≤◌, take}
use Rattle.std.specs.Prelude.{count_by}
use Rattle.story_pages.specs.Claims.{is_alike}
use Rattle.story_pages.proofs.claims.count_alike.Given as goal

-- the facts so far were counted
abbrev pub invariant-loop-fact : goal.invariant-loop-fact
invariant-loop-fact l = (l.count ≡ count_by (is_alike l.head) (take l.fact-index l.facts)) × (l.count ≤ l.fact-index)
