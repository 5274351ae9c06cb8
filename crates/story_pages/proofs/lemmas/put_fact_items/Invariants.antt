use Rattle.std.proofs.Common.{◌≡◌, ◌++◌, take}
use Rattle.std.specs.List.{flat_map}
use Rattle.story_pages.specs.Lemmas.{fact_item}
use Rattle.story_pages.proofs.lemmas.put_fact_items.Given as goal

-- what came so far was added
abbrev pub invariant-loop-literal : goal.invariant-loop-literal
invariant-loop-literal l = l.out ≡ l.initial.out ++ flat_map (fact_item l.space) (take l.literal-index l.literals)
