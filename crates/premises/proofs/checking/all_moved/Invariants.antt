use Rattle.std.proofs.Common.{◌≡◌, true, take}
use Rattle.std.specs.List.{list_all}
use Rattle.vocab.specs.Literal.{has}
use Rattle.tellings.specs.Tellings.{moved_to}
use Rattle.premises.proofs.checking.all_moved.Given as goal

-- the claims so far stand there of the profile
abbrev pub invariant-loop-literal : goal.invariant-loop-literal
invariant-loop-literal g l = list_all (λ q. has l.facts.board.now.literals (moved_to l.p q)) (take l.literal-index l.literal-items) ≡ true
