use Rattle.std.proofs.Common.{◌≡◌, ◌*◌, ◌≤◌, length, take, map}
use Rattle.std.specs.List.{join_with_byte}
use Rattle.meaning.specs.Space.{casts_of}
use Rattle.meaning.specs.Texts.{cast_text}
use Rattle.profiles.proofs.space.Space.profile_text.Given as goal

abbrev pub invariant-loop-i : goal.invariant-loop-i
invariant-loop-i l = record {
  text : l.text ≡ join_with_byte 124 (take l.i (map (cast_text l.self) (casts_of l.self l.p)));
  short : length l.text ≤ 6 * l.i;
}
