use Rattle.std.proofs.Common.{◌≡◌, ◌++◌}
use Rattle.std.specs.List.{flat_map}
use Rattle.vocab.specs.Range.{below}
use Rattle.story_pages.specs.Homes.{lemma_at}
use Rattle.story_pages.proofs.homes.put_lemmas.Given as goal

-- what came so far was added
abbrev pub invariant-loop-place : goal.invariant-loop-place
invariant-loop-place l = l.out ≡ l.initial.out ++ flat_map (lemma_at l.space l.axioms l.story l.told) (below l.place)
