use Rattle.std.proofs.Common.{◌≡◌, drop}
use Rattle.study.specs.Sentences.{opened}
use Rattle.study.proofs.limits.opened.Given as goal

abbrev pub invariant-loop-named : goal.invariant-loop-named
invariant-loop-named l = opened l.size (drop l.named-index l.axioms) ≡ opened l.size l.axioms
