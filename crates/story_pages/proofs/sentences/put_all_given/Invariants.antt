use Rattle.std.proofs.Common.{◌≡◌, ◌++◌, take}
use Rattle.std.specs.List.{flat_map}
use Rattle.story_pages.specs.Sentences.{given_by}
use Rattle.story_pages.proofs.sentences.put_all_given.Given as goal

-- what came so far was added
abbrev pub invariant-loop-placed : goal.invariant-loop-placed
invariant-loop-placed l = l.out ≡ l.initial.out ++ flat_map (given_by l.space l.number) (take l.placed-index l.steps)
