use Rattle.std.proofs.Common.{◌≡◌, length, take}
use Rattle.std.specs.List.{flat_map}
use Rattle.tellings.specs.Tellings.{naming}
use Rattle.premises.specs.Uses.{AreNamed}
use Rattle.premises.proofs.uses.count_steps.Given as goal

-- what the steps so far name is counted
abbrev pub invariant-loop-placed : goal.invariant-loop-placed
invariant-loop-placed l = record {
  size : length l.uses.items ≡ length l.initial.uses.items;
  named : AreNamed l.initial.uses.items l.uses.items (λ j. flat_map (λ placed. naming j l.place placed.step.reason) (take l.placed-index l.steps));
}
