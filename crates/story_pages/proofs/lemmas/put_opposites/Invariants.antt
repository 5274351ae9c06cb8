use Rattle.std.proofs.Common.{◌≡◌, ◌++◌, take}
use Rattle.std.specs.List.{flat_map}
use Rattle.story_pages.specs.Lemmas.{opposite_html}
use Rattle.story_pages.proofs.lemmas.put_opposites.Given as goal

-- what came so far was added
abbrev pub invariant-loop-literal : goal.invariant-loop-literal
invariant-loop-literal l = l.out ≡ l.initial.out ++ flat_map (opposite_html l.space) (take l.literal-index l.suppose)
