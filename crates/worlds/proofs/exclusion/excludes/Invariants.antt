use Rattle.std.proofs.Common.{◌≡◌, false, filter}
use Rattle.std.specs.Prelude.{◌==◌}
use Rattle.std.specs.List.{list_all, list_any}
use Rattle.vocab.specs.Literal.{profile_of}
use Rattle.meaning.specs.Space.{below}
use Rattle.meaning.specs.Truth.{holds_of}
use Rattle.worlds.proofs.exclusion.excludes.Given as goal

-- no outcome so far makes all hold
abbrev pub invariant-loop-outcome : goal.invariant-loop-outcome
invariant-loop-outcome g l =
    let size = g.K.OutcomeKind.size l.kind in
    list_any (λ o. list_all (holds_of size o) (filter (λ k. profile_of k == l.p) l.board.literals)) (below l.outcome) ≡ false
