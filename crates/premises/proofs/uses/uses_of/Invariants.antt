use Rattle.std.proofs.Common.{◌≡◌, ℕ, ◌<◌, length, Some}
use Rattle.std.specs.Prelude.{slice_get}
use Rattle.std.specs.List.{flat_map}
use Rattle.vocab.specs.Range.{below}
use Rattle.tellings.specs.Tellings.{namings}
use Rattle.premises.specs.Uses.{use_of}
use Rattle.premises.proofs.uses.uses_of.Given as goal

-- what the lemmas so far name is counted
abbrev pub invariant-loop-place : goal.invariant-loop-place
invariant-loop-place l = record {
  all : length l.uses.items ≡ length l.story;
  each : (j : ℕ) → j < length l.story → slice_get l.uses.items j ≡ Some (use_of (flat_map (λ m. namings j m (slice_get l.story m) (slice_get l.tellings m)) (below l.place)));
}
