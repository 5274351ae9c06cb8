use Rattle.std.proofs.Common.{◌≡◌, true, take}
use Rattle.std.specs.List.{list_all}
use Rattle.vocab.specs.Literal.{has}
use Rattle.story.proofs.reasons.KnownLiterals.by_lemma.Given as goal

-- the literals so far are on the board
abbrev pub invariant-loop-literal : goal.invariant-loop-literal
invariant-loop-literal g l = list_all (has l.self.board.now.literals) (take l.literal-index l.literals) ≡ true
