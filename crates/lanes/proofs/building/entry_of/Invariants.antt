use Rattle.std.proofs.Common.{ℕ, ◌+◌, ◌++◌}
use Rattle.vocab.specs.Tree.{tree_of}
use Rattle.meaning.specs.Instances.{instance_values}
use Rattle.meaning.specs.Written.{write_out}
use Rattle.lanes.specs.Marks.{IsTold}
use Rattle.lanes.proofs.building.entry_of.Given as goal

-- what is told so far
abbrev pub invariant-loop-k : goal.invariant-loop-k
invariant-loop-k g l =
    let size = g.K.OutcomeKind.size l.setting.kind.now in
    (j : ℕ) → IsTold l.marks j (write_out size (tree_of l.leaf) (instance_values size l.setting.named.now.sentence (l.number + j) ++ l.inner))
