use Rattle.std.proofs.Common.{◌==◌, take}
use Rattle.std.specs.List.{list_any}
use Rattle.renumbering.specs.Renumbered.{IsFlagging}
use Rattle.renumbering.proofs.citing.flag_hints.Given as goal

abbrev pub invariant-loop-hint : goal.invariant-loop-hint
invariant-loop-hint l = IsFlagging l.initial.flags.items l.flags.items (λ id. list_any (λ h. h == id) (take l.hint-index l.hints))
