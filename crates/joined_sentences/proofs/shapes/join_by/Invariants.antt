use Rattle.std.proofs.Common.{◌≡◌}
use Rattle.joined_sentences.proofs.shapes.join_by.Given as goal

-- the board keeps its size
abbrev pub invariant-loop-place : goal.invariant-loop-place
invariant-loop-place l = l.union.size ≡ l.size
