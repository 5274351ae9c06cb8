use Rattle.std.proofs.Common.{◌≡◌, ◌+◌, drop, map}
use Rattle.meaning.specs.Space.{cast_bases, number_of, cast_swapped, with_alts_swapped}
use Rattle.profiles.proofs.DigitChanges.{ballots_from, IsRest}
use Rattle.profiles.proofs.space.Space.swap_alts.Given as goal

abbrev pub invariant-loop-i : goal.invariant-loop-i
invariant-loop-i l = record {
  left : IsRest l.self l.i l.rest;
  number : l.swapped + number_of (drop l.i (cast_bases l.self)) (map (cast_swapped l.self l.fn.x l.fn.y) (ballots_from l.self l.i l.rest)) ≡ with_alts_swapped l.self l.fn.p l.fn.x l.fn.y;
}
