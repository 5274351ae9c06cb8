use Rattle.std.proofs.Common.{◌≡◌, take}
use Rattle.told_instances.specs.Told.{codes_told}
use Rattle.told_instances.proofs.telling.codes_of.Given as goal

abbrev pub invariant-loop-lemma : goal.invariant-loop-lemma
invariant-loop-lemma l = l.codes.items ≡ codes_told l.study (take l.lemma-index l.story)
