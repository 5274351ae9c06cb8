use Rattle.std.proofs.Common.{◌≡◌, true}
use Rattle.std.specs.List.{list_all}
use Rattle.vocab.specs.Literal.{has}
use Rattle.needed_facts.proofs.facts.Facts.load.Given as goal

-- what is on the board is known
abbrev pub invariant-loop-place : goal.invariant-loop-place
invariant-loop-place g l = (l.tried.size ≡ l.fn.tried.size) × (list_all (has l.self.board.now.literals) l.tried.literals ≡ true)
