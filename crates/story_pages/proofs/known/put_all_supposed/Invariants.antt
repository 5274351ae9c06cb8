use Rattle.std.proofs.Common.{◌≡◌, ◌++◌, take}
use Rattle.std.specs.List.{flat_map}
use Rattle.story_pages.specs.Known.{supposed_mark}
use Rattle.story_pages.proofs.known.put_all_supposed.Given as goal

-- what came so far was added
abbrev pub invariant-loop-literal : goal.invariant-loop-literal
invariant-loop-literal l = l.out ≡ l.initial.out ++ flat_map (supposed_mark l.p) (take l.literal-index l.suppose)
