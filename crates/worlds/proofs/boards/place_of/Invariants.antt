use Rattle.std.proofs.Common.{◌≡◌, ◌<◌, ◌+◌, true, length, take}
use Rattle.vocab.specs.Literal.{has}
use Rattle.worlds.proofs.boards.place_of.Given as goal

-- the literal stands at the place, or before it
abbrev pub invariant-going_back : goal.invariant-going_back
invariant-going_back l = (l.place < length l.literals) × (has (take (l.place + 1) l.literals) l.literal ≡ true)

abbrev pub decreases-going_back : goal.decreases-going_back
decreases-going_back l = l.place
