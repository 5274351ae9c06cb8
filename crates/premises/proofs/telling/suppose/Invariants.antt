use Rattle.std.proofs.Common.{◌≡◌, true, take, drop}
use Rattle.meaning.specs.Stories.{are_new}
use Rattle.premises.proofs.telling.suppose.Given as goal

-- the literals so far are on the board, and the others are new to it
abbrev pub invariant-loop-literal : goal.invariant-loop-literal
invariant-loop-literal l = record {
  size : l.known.size ≡ l.fn.known.size;
  literals : l.known.literals ≡ take l.literal-index l.literals;
  rest : are_new l.known.literals (drop l.literal-index l.literals) ≡ true;
}
