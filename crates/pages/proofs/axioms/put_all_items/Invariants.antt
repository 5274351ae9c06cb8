use Rattle.std.proofs.Common.{◌≡◌, ◌++◌}
use Rattle.std.specs.List.{flat_map}
use Rattle.vocab.specs.Range.{below}
use Rattle.pages.specs.Theorem.{axiom_item}
use Rattle.pages.proofs.axioms.put_all_items.Given as goal

-- what came so far was added
abbrev pub invariant-loop-place : goal.invariant-loop-place
invariant-loop-place l = l.out ≡ l.initial.out ++ flat_map (axiom_item l.space l.axioms) (below l.place)
