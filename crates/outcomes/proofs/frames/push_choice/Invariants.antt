use Rattle.std.proofs.Common.{◌≡◌, ℕ, [], ◌∷◌}
use Rattle.meaning.specs.Variables.{pairs}
use Rattle.outcomes.specs.Frames.{with_clauses}
use Rattle.outcomes.specs.Rows.{some_wins, one_loses}
use Rattle.outcomes.proofs.Growth.{rows_to}
use Rattle.outcomes.proofs.frames.push_choice.Given as goal

abbrev pub invariant-loop-place : goal.invariant-loop-place
invariant-loop-place l =
    l.out ≡ with_clauses l.fn.out (rows_to (some_wins l.at.alternatives.number l.at.profile ∷ []) (λ (t : ℕ × ℕ). one_loses l.at.alternatives.number l.at.profile t ∷ []) (pairs l.at.alternatives.number) l.place) l.at.profile
