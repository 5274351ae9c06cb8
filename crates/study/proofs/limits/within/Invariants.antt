use Rattle.std.proofs.Common.{◌≡◌, drop}
use Rattle.study.specs.Sentences.{within}
use Rattle.study.proofs.limits.within.Given as goal

abbrev pub invariant-loop-named : goal.invariant-loop-named
invariant-loop-named l = within l.size l.limit (drop l.named-index l.axioms) ≡ within l.size l.limit l.axioms
