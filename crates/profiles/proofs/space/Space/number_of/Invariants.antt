use Rattle.std.proofs.Common.{ℕ, ◌<◌, ◌≢◌}
use Rattle.std.specs.Prelude.{slice_index}
use Rattle.vocab.specs.Size.{ballot_places}
use Rattle.profiles.proofs.space.Space.number_of.Given as goal

abbrev pub invariant-loop-b : goal.invariant-loop-b
invariant-loop-b l = (k : ℕ) → k < l.b → slice_index (ballot_places l.self) k ≢ l.place
