use Rattle.std.proofs.Common.{◌≡◌, ◌≤◌, length, filter}
use Rattle.vocab.specs.InPlace.{padded}
use Rattle.vocab.specs.Range.{below}
use Rattle.vocab.specs.Size.{is_digit_set}
use Rattle.profiles.proofs.space.places_of.Given as goal

abbrev pub invariant-loop-place : goal.invariant-loop-place
invariant-loop-place l = record {
  counted : l.count ≡ length (filter (is_digit_set l.fn.size.ballots) (below l.place));
  few : l.count ≤ l.place;
  places : l.places ≡ padded 120 (filter (is_digit_set l.fn.size.ballots) (below l.place));
}
