use Rattle.std.proofs.Common.{◌≡◌, take}
use Rattle.sharp_verdicts.specs.Derived.{axioms_from}
use Rattle.instance_studies.proofs.making.derive.Given as goal

abbrev pub invariant-loop-cited : goal.invariant-loop-cited
invariant-loop-cited l = l.axioms ≡ axioms_from l.instances.study.now 0 (take l.cited-index l.cited-items)
