use Rattle.std.proofs.Common.{◌≡◌, ◌≤◌, length, take}
use Rattle.choice_sets.proofs.ElementLemmas.{letters_below}
use Rattle.choice_sets.proofs.elements.set_text.Given as goal

abbrev pub invariant-loop-x : goal.invariant-loop-x
invariant-loop-x l = record {
  size : length l.letters ≡ 5;
  few : l.count ≤ l.x;
  front : take l.count l.letters ≡ letters_below l.set l.x;
}
