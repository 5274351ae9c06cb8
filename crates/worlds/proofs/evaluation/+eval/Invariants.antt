use Rattle.std.proofs.Common.{◌+◌, ◌-◌, ◌*◌, ◌≤◌, ◌++◌, ◌∷◌, [], max}
use Rattle.vocab.specs.Limits.{depth}
use Rattle.vocab.specs.Tree.{tree_of}
use Rattle.meaning.specs.Written.{write_out}
use Rattle.worlds.specs.Meanings.{SameMeaning}
use Rattle.worlds.proofs.ChainLemmas.{all_from, some_from}
use Rattle.worlds.proofs.evaluation.+eval.Given as goal

-- a formula goes to its parts, and a part to itself

abbrev pub decreases-eval_formula : goal.decreases-eval_formula
decreases-eval_formula g l = 2 * depth (tree_of l.formula.now)

abbrev pub decreases-eval_not : goal.decreases-eval_not
decreases-eval_not g l = 2 * depth (tree_of l.inner.now) + 1

abbrev pub decreases-eval_all : goal.decreases-eval_all
decreases-eval_all g l = 2 * depth (tree_of l.inner.now) + 1

abbrev pub decreases-eval_exists : goal.decreases-eval_exists
decreases-eval_exists g l = 2 * depth (tree_of l.inner.now) + 1

abbrev pub decreases-eval_both : goal.decreases-eval_both
decreases-eval_both g l = 2 * max (depth (tree_of l.left.now)) (depth (tree_of l.right.now)) + 1

abbrev pub decreases-eval_either : goal.decreases-eval_either
decreases-eval_either g l = 2 * max (depth (tree_of l.left.now)) (depth (tree_of l.right.now)) + 1

abbrev pub decreases-eval_implies : goal.decreases-eval_implies
decreases-eval_implies g l = 2 * max (depth (tree_of l.left.now)) (depth (tree_of l.right.now)) + 1

abbrev pub decreases-eval_same : goal.decreases-eval_same
decreases-eval_same g l = 2 * max (depth (tree_of l.left.now)) (depth (tree_of l.right.now)) + 1

-- the value stands for the chain from v on, and the algebra means what it meant
abbrev pub invariant-eval_all-loop-v : goal.invariant-eval_all-loop-v
invariant-eval_all-loop-v g l =
    let stands = g.A.Algebra.stands in
    let takes = g.A.Algebra.takes in
    record {
      below : l.v ≤ l.last;
      chained : stands l.fn.algebra l.value (all_from (λ v. write_out l.space (tree_of l.inner) (l.env ++ v ∷ [])) l.v (l.last - l.v));
      same : SameMeaning (stands l.fn.algebra) (stands l.algebra) (takes l.fn.algebra) (takes l.algebra);
    }

abbrev pub invariant-eval_exists-loop-v : goal.invariant-eval_exists-loop-v
invariant-eval_exists-loop-v g l =
    let stands = g.A.Algebra.stands in
    let takes = g.A.Algebra.takes in
    record {
      below : l.v ≤ l.last;
      chained : stands l.fn.algebra l.value (some_from (λ v. write_out l.space (tree_of l.inner) (l.env ++ v ∷ [])) l.v (l.last - l.v));
      same : SameMeaning (stands l.fn.algebra) (stands l.algebra) (takes l.fn.algebra) (takes l.algebra);
    }
