use Rattle.std.proofs.Common.{◌≡◌, length, take, map}
use Rattle.meaning.specs.Space.{ranking}
use Rattle.meaning.specs.Texts.{letter}
use Rattle.profiles.proofs.tables.spelled.Given as goal

abbrev pub invariant-loop-place : goal.invariant-loop-place
invariant-loop-place l = record {
  size : length l.letters ≡ 5;
  front : take l.place l.letters ≡ take l.place (map letter (ranking l.order.alternatives.number l.order.place));
}
