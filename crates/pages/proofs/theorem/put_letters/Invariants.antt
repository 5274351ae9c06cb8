use Rattle.std.proofs.Common.{◌≡◌, ◌++◌}
use Rattle.std.specs.List.{flat_map}
use Rattle.vocab.specs.Range.{below}
use Rattle.pages.specs.Theorem.{lettered_html}
use Rattle.pages.proofs.theorem.put_letters.Given as goal

-- what came so far was added
abbrev pub invariant-loop-x : goal.invariant-loop-x
invariant-loop-x l = l.out ≡ l.initial.out ++ flat_map (lettered_html) (below l.x)
