use Rattle.std.proofs.Common.{◌≡◌, ◌+◌, ◌≤◌, ℕ}
use Rattle.std.specs.Prelude.{count_by}
use Rattle.meaning.specs.Space.{better, casts_of}
use Rattle.profiles.proofs.DigitChanges.{ballots_from, IsRest}
use Rattle.profiles.proofs.space.Space.majority.Given as goal

abbrev pub invariant-loop-i : goal.invariant-loop-i
invariant-loop-i l = record {
  left : IsRest l.self l.i l.rest;
  some_above : l.above ≤ l.i;
  some_below : l.below ≤ l.i;
  above : l.above + count_by (λ (b : ℕ). better l.self b l.x l.y) (ballots_from l.self l.i l.rest) ≡ count_by (λ (b : ℕ). better l.self b l.x l.y) (casts_of l.self l.fn.p);
  below : l.below + count_by (λ (b : ℕ). better l.self b l.y l.x) (ballots_from l.self l.i l.rest) ≡ count_by (λ (b : ℕ). better l.self b l.y l.x) (casts_of l.self l.fn.p);
}
