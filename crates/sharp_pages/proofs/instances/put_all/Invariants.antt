use Rattle.std.proofs.Common.{◌≡◌, ◌++◌}
use Rattle.std.specs.List.{flat_map}
use Rattle.vocab.specs.Range.{below}
use Rattle.sharp_pages.specs.SharpPages.{instance_html_at}
use Rattle.sharp_pages.proofs.instances.put_all.Given as goal

-- what came so far was added
abbrev pub invariant-loop-place : goal.invariant-loop-place
invariant-loop-place l = l.out ≡ l.initial.out ++ flat_map (instance_html_at l.axioms l.instances l.marks) (below l.place)
