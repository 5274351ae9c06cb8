use Rattle.std.proofs.Common.{◌≡◌, length}
use Rattle.std.specs.Vec.{vec_capacity}
use Rattle.worlds.specs.Boards.{IsBoard}
use Rattle.worlds.proofs.boards.Board.clear.Given as goal

-- what is left is a board of the size
abbrev pub invariant-loop-literal : goal.invariant-loop-literal
invariant-loop-literal l = (l.self-inside.size ≡ l.fn.self.size) × IsBoard l.self-inside.size l.self-inside.literals.items (vec_capacity l.self-inside.literals) l.self-inside.marks.items

abbrev pub decreases-loop-literal : goal.decreases-loop-literal
decreases-loop-literal l = length l.self-inside.literals.items
