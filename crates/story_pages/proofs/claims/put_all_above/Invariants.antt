use Rattle.std.proofs.Common.{◌≡◌, ◌++◌}
use Rattle.std.specs.List.{flat_map}
use Rattle.vocab.specs.Range.{below}
use Rattle.story_pages.specs.Claims.{above_html}
use Rattle.story_pages.proofs.claims.put_all_above.Given as goal

-- what came so far was added
abbrev pub invariant-loop-x : goal.invariant-loop-x
invariant-loop-x g l = l.out ≡ l.initial.out ++ flat_map (above_html l.space.alternatives (g.P.Phrases.phrase l.phrases)) (below l.x)
