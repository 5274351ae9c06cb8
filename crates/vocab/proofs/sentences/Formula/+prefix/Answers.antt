use Rattle.std.proofs.Common.{◌≡◌, ◌≤◌, ◌+◌, arith}
use Rattle.vocab.specs.Formula.{quantifier_depth}
use Rattle.vocab.specs.Tree.{tree_of}
use Rattle.vocab.proofs.PrefixLemmas.{prefix_within_depth}
use Rattle.vocab.proofs.sentences.Formula.+prefix.Goals as goal

pub overflow_add-result : goal.overflow_add-result
overflow_add-result t c =
    let within = prefix_within_depth (tree_of c.deref.result.now) in
    let same : c.deref.result.now ≡ c.in-All.inner.value = c.deref.ensures in
    let few : quantifier_depth (tree_of c.in-All.inner.value) + 1 ≤ 12 = rw c.in-All.is at c.requires in
    let bound : quantifier_depth (tree_of c.deref.result.now) + 1 ≤ 12 = rw same few in
    omega (arith, within, bound)
