use Rattle.std.proofs.Common.{◌≡◌, arith, min}
use Rattle.vocab.specs.Limits.{instance_count}
use Rattle.vocab.specs.Tree.{tree_of}
use Rattle.lanes.proofs.StrideLaws.{few-inside}
use Rattle.lanes.proofs.instances.worth.Goals as goal

pub overflow_cast-result : goal.overflow_cast-result
overflow_cast-result c =
    let few = few-inside c.args.space.now c.spaces_have_sizes.ensures c.args.sort (tree_of c.args.inner.now) c.requires in
    let count : c.instance_count.result ≡ min (instance_count c.args.space.now (tree_of c.args.inner.now)) 18446744073709551615 = c.instance_count.ensures in
    omega (arith, few, count)

pub returns-clause-value : goal.returns-clause-value
returns-clause-value c =
    let few = few-inside c.args.space.now c.spaces_have_sizes.ensures c.args.sort (tree_of c.args.inner.now) c.requires in
    let count : c.instance_count.result ≡ min (instance_count c.args.space.now (tree_of c.args.inner.now)) 18446744073709551615 = c.instance_count.ensures in
    omega (arith, few, count)

pub returns-clause-few : goal.returns-clause-few
returns-clause-few c = few-inside c.args.space.now c.spaces_have_sizes.ensures c.args.sort (tree_of c.args.inner.now) c.requires
