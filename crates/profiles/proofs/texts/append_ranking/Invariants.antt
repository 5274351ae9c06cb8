use Rattle.std.proofs.Common.{◌≡◌, ◌≤◌, ◌+◌, ◌++◌, length, take, map}
use Rattle.meaning.specs.Space.{ranking}
use Rattle.meaning.specs.Texts.{letter}
use Rattle.profiles.proofs.texts.append_ranking.Given as goal

abbrev pub invariant-loop-place : goal.invariant-loop-place
invariant-loop-place l = record {
  text : l.text ≡ l.initial.text ++ take l.place (map letter (ranking l.order.alternatives.number l.order.place));
  short : length l.text ≤ length l.initial.text + l.place;
}
