use Rattle.std.proofs.Common.{◌≡◌, ◌++◌, take}
use Rattle.std.specs.List.{flat_map}
use Rattle.story_pages.specs.Known.{forced_mark}
use Rattle.story_pages.proofs.known.put_all_forced.Given as goal

-- what came so far was added
abbrev pub invariant-loop-placed : goal.invariant-loop-placed
invariant-loop-placed l = l.out ≡ l.initial.out ++ flat_map (forced_mark l.p) (take l.placed-index l.forced)
