use Rattle.std.proofs.Common.{◌≡◌, map, take}
use Rattle.instance_stories.specs.Named.{lemma_named}
use Rattle.instance_stories.proofs.naming.story_named.Given as goal

abbrev pub invariant-loop-lemma : goal.invariant-loop-lemma
invariant-loop-lemma l = l.named ≡ map (lemma_named l.instances.study.now l.instances.cited.now) (take l.lemma-index l.lemma-items)
