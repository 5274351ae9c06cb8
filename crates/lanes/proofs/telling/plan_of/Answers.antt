use Rattle.std.proofs.Common.{◌≡◌, ◌∙◌, ap, min, drop, arith}
use Rattle.vocab.specs.Formula.{body_of}
use Rattle.vocab.specs.Range.{product}
use Rattle.vocab.specs.Limits.{bases_of, instance_count}
use Rattle.vocab.specs.Tree.{tree_of}
use Rattle.meaning.specs.Instances.{instance_values}
use Rattle.worlds.proofs.ConditionLemmas.{evaluable}
use Rattle.lanes.proofs.telling.plan_of.Goals as goal

pub part_of-requires-clause-setting : goal.part_of-requires-clause-setting
part_of-requires-clause-setting g c = λ κs out.
    let size = g.K.OutcomeKind.size c.args.kind.now in
    let sentence = c.args.named.now.sentence in
    let shaped = c.shape_of-shape.ensures in
    let group : c.group_of-group.result ≡ min (product (drop c.shape_of-shape.result.outer (bases_of size sentence))) 18446744073709551615 = rw (c.space-space.ensures, c.sentence-2.ensures) at c.group_of-group.ensures in
    let count : c.instance_count-count.result ≡ min (instance_count size sentence) 18446744073709551615 = rw (c.space-space.ensures, c.sentence-3.ensures) at c.instance_count-count.ensures in
    record {
      sentence = c.requires.sentence;
      few = c.requires.few;
      shaped = shaped;
      lanes = let e = ap product shaped.bases in omega (arith, group, e);
      instances = let few = c.requires.few in omega (arith, few, count);
    }

pub part_of-requires-clause-inside : goal.part_of-requires-clause-inside
part_of-requires-clause-inside g c = λ κs out n l.
    let size = g.K.OutcomeKind.size c.args.kind.now in
    let a = c.args.named.now in
    let body : tree_of c.body-2.result.now ≡ body_of a.sentence = c.body-2.ensures ∙ ap body_of c.sentence-4.ensures in
    let fits = c.bodies_have_values.ensures size a c.requires.sentence (instance_values size a.sentence n) ((c.numbers_are_digits.ensures (bases_of size a.sentence)).digits n l) in
    rw (c.none.ensures, body) (evaluable size (body_of a.sentence) (instance_values size a.sentence n) fits)

pub returns : goal.returns
returns g c =
    let size = g.K.OutcomeKind.size c.args.kind.now in
    let sentence = c.args.named.now.sentence in
    let shaped = c.shape_of-shape.ensures in
    let group : c.group_of-group.result ≡ min (product (drop c.shape_of-shape.result.outer (bases_of size sentence))) 18446744073709551615 = rw (c.space-space.ensures, c.sentence-2.ensures) at c.group_of-group.ensures in
    let body : tree_of c.body-2.result.now ≡ body_of sentence = c.body-2.ensures ∙ ap body_of c.sentence-4.ensures in
    record {
      shape = shaped;
      group = let e = ap product shaped.bases in omega (arith, group, e);
      strides = c.strides_of-strides.ensures;
      part = rw body at c.in_ok-part.ensures;
    }
