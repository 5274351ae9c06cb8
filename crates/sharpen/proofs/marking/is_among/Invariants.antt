use Rattle.std.proofs.Common.{◌≡◌, take, false}
use Rattle.sharp_verdicts.specs.Instances.{has_instance}
use Rattle.sharpen.proofs.marking.is_among.Given as goal

abbrev pub invariant-loop-instance : goal.invariant-loop-instance
invariant-loop-instance l = has_instance (take l.instance-index l.instances) l.cited ≡ false
