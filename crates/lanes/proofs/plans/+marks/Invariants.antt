use Rattle.std.proofs.Common.{◌-◌, ◌+◌, ◌<◌, ◌≤◌, ◌++◌, ◌∷◌, [], ℕ, length}
use Rattle.vocab.specs.Range.{product}
use Rattle.vocab.specs.Tree.{tree_of}
use Rattle.meaning.specs.Written.{write_out}
use Rattle.worlds.proofs.ChainLemmas.{all_from, some_from}
use Rattle.lanes.specs.Lanes.{IsPart, lane_values}
use Rattle.lanes.specs.Marks.{IsTold}
use Rattle.lanes.specs.declared.shapes.Shape.{Shape}
use Rattle.lanes.proofs.plans.+marks.Given as goal

-- what is known of the chain from v on
abbrev pub invariant-all_marks-loop-v : goal.invariant-all_marks-loop-v
invariant-all_marks-loop-v l = record {
  below : l.v ≤ l.last;
  chained : (shape : Shape) → IsPart l.space shape l.p.value (tree_of l.f.value) → shape.outer + length shape.bases ≤ length l.env → (k : ℕ) → l.first + k < product shape.bases
      → IsTold l.value k (all_from (λ v. write_out l.space (tree_of l.f.value) (lane_values shape l.first k l.env ++ v ∷ [])) l.v (l.last - l.v));
}

-- what is known of the chain from v on
abbrev pub invariant-some_marks-loop-v : goal.invariant-some_marks-loop-v
invariant-some_marks-loop-v l = record {
  below : l.v ≤ l.last;
  chained : (shape : Shape) → IsPart l.space shape l.p.value (tree_of l.f.value) → shape.outer + length shape.bases ≤ length l.env → (k : ℕ) → l.first + k < product shape.bases
      → IsTold l.value k (some_from (λ v. write_out l.space (tree_of l.f.value) (lane_values shape l.first k l.env ++ v ∷ [])) l.v (l.last - l.v));
}
