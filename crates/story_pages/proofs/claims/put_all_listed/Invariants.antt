use Rattle.std.proofs.Common.{◌≡◌, ◌++◌, take}
use Rattle.std.specs.List.{flat_map}
use Rattle.story_pages.specs.Claims.{listed_html}
use Rattle.story_pages.proofs.claims.put_all_listed.Given as goal

-- what came so far was added
abbrev pub invariant-loop-fact : goal.invariant-loop-fact
invariant-loop-fact l = l.out ≡ l.initial.out ++ flat_map (listed_html l.space l.count l.head) (take l.fact-index l.facts)
