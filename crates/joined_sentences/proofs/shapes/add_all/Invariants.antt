use Rattle.std.proofs.Common.{◌≡◌}
use Rattle.joined_sentences.proofs.shapes.add_all.Given as goal

-- the board keeps its size
abbrev pub invariant-loop-literal : goal.invariant-loop-literal
invariant-loop-literal l = l.union.size ≡ l.size
