use Rattle.std.proofs.Common.{◌≡◌, length, map, take}
use Rattle.renumbering.specs.Renumbered.{new_id}
use Rattle.renumbering.proofs.lines.new_ids.Given as goal

abbrev pub invariant-loop-id : goal.invariant-loop-id
invariant-loop-id l = l.new ≡ map (new_id (length l.places) l.after l.places) (take l.id-index l.ids)
