use Rattle.std.proofs.Common.{◌≡◌, ◌++◌}
use Rattle.std.specs.List.{flat_map}
use Rattle.vocab.specs.Range.{below}
use Rattle.pages.specs.Witnesses.{witness_at}
use Rattle.pages.proofs.witnesses.put_marks.Given as goal

-- what came so far was added
abbrev pub invariant-loop-place : goal.invariant-loop-place
invariant-loop-place g l = l.out ≡ l.initial.out ++ flat_map (witness_at (g.K.OutcomeKind.size l.kind) l.axioms l.core l.witnesses) (below l.place)
