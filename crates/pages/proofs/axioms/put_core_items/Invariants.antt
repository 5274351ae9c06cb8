use Rattle.std.proofs.Common.{◌≡◌, ◌++◌, take}
use Rattle.std.specs.List.{flat_map}
use Rattle.pages.specs.Theorem.{axiom_item}
use Rattle.pages.proofs.axioms.put_core_items.Given as goal

-- what came so far was added
abbrev pub invariant-loop-place : goal.invariant-loop-place
invariant-loop-place l = l.out ≡ l.initial.out ++ flat_map (axiom_item l.space l.axioms) (take l.place-index l.places)
