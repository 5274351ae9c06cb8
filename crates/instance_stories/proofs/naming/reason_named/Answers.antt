use Rattle.lists.proofs.TestLaws.{all_get}
use Rattle.sharp_verdicts.specs.Instances.{is_present}
use Rattle.instance_stories.proofs.naming.reason_named.Goals as goal

pub values_of-values-requires-clause-present : goal.values_of-values-requires-clause-present
values_of-values-requires-clause-present c = all_get (is_present c.args.instances.now.study.now) c.args.instances.now.cited.now c.in-Axiom.k c.get-cited.result.now c.args.instances.now.own.present c.get-cited.ensures
