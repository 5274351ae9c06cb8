use Rattle.std.proofs.Common.{◌≡◌, ◌++◌, map, take}
use Rattle.study_help.specs.Places.{shown_byte}
use Rattle.study_help.proofs.places.put_shown.Given as goal

-- the bytes so far were added
abbrev pub invariant-loop-byte : goal.invariant-loop-byte
invariant-loop-byte l = l.out ≡ l.initial.out ++ map shown_byte (take l.byte-index l.bytes)
