use Rattle.std.proofs.Common.{◌≡◌, ℕ, ◌<◌, true}
use Rattle.std.specs.Prelude.{slice_get}
use Rattle.std.specs.List.{list_all}
use Rattle.tellings.specs.Tellings.{rests_of, stands_before}
use Rattle.premises.proofs.checking.Checker.are_grounded.Given as goal

-- what the sentences so far rest on stands before them
abbrev pub invariant-loop-number : goal.invariant-loop-number
invariant-loop-number g l =
    (k : ℕ) → k < l.number → list_all (stands_before l.self.teller.now.forced.now.literals l.self.supposed.now.literals l.passage.steps k) (rests_of (slice_get l.passage.sentences k)) ≡ true
