use Rattle.std.proofs.Common.{ℕ, ◌<◌, ◌-◌}
use Rattle.vocab.specs.Size.{outcome_count}
use Rattle.cnf.specs.Assignment.{value_of}
use Rattle.outcomes.specs.OutcomeBits.{AreBitsAt}
use Rattle.outcomes.proofs.decode.decode.Given as goal

-- there is the outcome, and none before it has the bits
abbrev pub invariant-trying : goal.invariant-trying
invariant-trying g l =
    let size = g.K.OutcomeKind.size l.kind in
    (l.outcome < outcome_count size.kind size.alternatives) × ((o : ℕ) → o < l.outcome → ¬ AreBitsAt size l.p o (value_of l.assignment))

abbrev pub decreases-trying : goal.decreases-trying
decreases-trying g l = let size = g.K.OutcomeKind.size l.kind in outcome_count size.kind size.alternatives - l.outcome
