use Rattle.std.proofs.Common.{◌≡◌, take, map}
use Rattle.sharpen.specs.Marks.{derived_instance, marks_kept}
use Rattle.sharpen.proofs.marking.marks_of.Given as goal

abbrev pub invariant-loop-k : goal.invariant-loop-k
invariant-loop-k l = l.marks ≡ marks_kept l.listed (map (derived_instance l.instances) (take l.k l.core)) (take l.k l.witnesses)
