use Rattle.std.proofs.Common.{◌+◌, ◌-◌, ◌*◌, ◌≤◌, ◌++◌, ◌∷◌, [], max}
use Rattle.vocab.specs.Limits.{depth}
use Rattle.vocab.specs.Tree.{tree_of}
use Rattle.meaning.specs.Written.{write_out}
use Rattle.worlds.proofs.ChainLemmas.{all_from, some_from}
use Rattle.clause_form.specs.Signed.{IsSide}
use Rattle.clause_form.proofs.signed.+side.Given as goal

-- a formula goes to its parts, and a part to itself

abbrev pub decreases-side_of : goal.decreases-side_of
decreases-side_of g l = 2 * depth (tree_of l.formula.now)

abbrev pub decreases-not_side : goal.decreases-not_side
decreases-not_side g l = 2 * depth (tree_of l.inner.now) + 1

abbrev pub decreases-all_side : goal.decreases-all_side
decreases-all_side g l = 2 * depth (tree_of l.inner.now) + 1

abbrev pub decreases-exists_side : goal.decreases-exists_side
decreases-exists_side g l = 2 * depth (tree_of l.inner.now) + 1

abbrev pub decreases-both_side : goal.decreases-both_side
decreases-both_side g l = 2 * max (depth (tree_of l.left.now)) (depth (tree_of l.right.now)) + 1

abbrev pub decreases-either_side : goal.decreases-either_side
decreases-either_side g l = 2 * max (depth (tree_of l.left.now)) (depth (tree_of l.right.now)) + 1

abbrev pub decreases-implies_side : goal.decreases-implies_side
decreases-implies_side g l = 2 * max (depth (tree_of l.left.now)) (depth (tree_of l.right.now)) + 1

-- the value is the side of the chain from v on
abbrev pub invariant-all_side-loop-v : goal.invariant-all_side-loop-v
invariant-all_side-loop-v g l =
    let size = g.K.OutcomeKind.size l.kind in
    record {
      below : l.v ≤ l.last;
      chained : IsSide size l.positive l.value (all_from (λ v. write_out size (tree_of l.inner) (l.env ++ v ∷ [])) l.v (l.last - l.v));
    }

-- the value is the side of the chain from v on
abbrev pub invariant-exists_side-loop-v : goal.invariant-exists_side-loop-v
invariant-exists_side-loop-v g l =
    let size = g.K.OutcomeKind.size l.kind in
    record {
      below : l.v ≤ l.last;
      chained : IsSide size l.positive l.value (some_from (λ v. write_out size (tree_of l.inner) (l.env ++ v ∷ [])) l.v (l.last - l.v));
    }
