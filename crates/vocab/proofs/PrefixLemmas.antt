-- The leading universals of a sentence are some of its quantifiers.
use Rattle.std.proofs.Common.{◌≤◌, length, arith}
use Rattle.vocab.specs.Formula.{prefix_of, quantifier_depth}
use Rattle.vocab.specs.Tree.{Tree, All}

pub prefix_within_depth : (f : Tree) → length (prefix_of f) ≤ quantifier_depth f
prefix_within_depth (All s f) = let inner = prefix_within_depth f in omega arith
prefix_within_depth f = omega arith
