use Rattle.std.proofs.Common.{◌+◌, ◌*◌}
use Rattle.meaning.specs.Variables.{bits}
use Rattle.worlds.proofs.ExclusionLemmas.{AreChecked}
use Rattle.worlds.proofs.exclusion.allows.Given as goal

-- the literals of the variables so far hold, where they are known
abbrev pub invariant-loop-place : goal.invariant-loop-place
invariant-loop-place g l =
    let size = g.K.OutcomeKind.size l.known.kind.now in
    AreChecked size l.known.board.now.literals l.outcome l.p (l.p * bits size.kind size.alternatives + l.place)
