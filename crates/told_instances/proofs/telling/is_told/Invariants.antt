use Rattle.std.proofs.Common.{◌≡◌, take, false}
use Rattle.sharp_verdicts.specs.Instances.{is_axiom_told}
use Rattle.told_instances.proofs.telling.is_told.Given as goal

abbrev pub invariant-loop-lemma : goal.invariant-loop-lemma
invariant-loop-lemma l = is_axiom_told (take l.lemma-index l.story) l.k ≡ false
