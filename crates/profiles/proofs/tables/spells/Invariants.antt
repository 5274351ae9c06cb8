use Rattle.std.proofs.Common.{◌≡◌, take, map}
use Rattle.meaning.specs.Space.{ranking}
use Rattle.meaning.specs.Texts.{letter}
use Rattle.profiles.proofs.tables.spells.Given as goal

abbrev pub invariant-loop-place : goal.invariant-loop-place
invariant-loop-place l = take l.place l.text ≡ take l.place (map letter (ranking l.order.alternatives.number l.order.place))
