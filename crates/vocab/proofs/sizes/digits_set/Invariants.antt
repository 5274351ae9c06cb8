use Rattle.std.proofs.Common.{◌≡◌, ◌≤◌, length, filter}
use Rattle.vocab.specs.Range.{below}
use Rattle.vocab.specs.Size.{is_digit_set}
use Rattle.vocab.proofs.sizes.digits_set.Given as goal

abbrev pub invariant-loop-j : goal.invariant-loop-j
invariant-loop-j l = record {
  counted : l.count ≡ length (filter (is_digit_set l.number) (below l.j));
  few : l.count ≤ l.j;
}
