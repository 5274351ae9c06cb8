use Rattle.std.proofs.Common.{◌+◌, ◌++◌}
use Rattle.grounding.specs.Parts.{KeepSame}
use Rattle.grounding.specs.Pieces.{sources_of}
use Rattle.grounding.proofs.parts.push_instances.Given as goal

-- the clauses of the instances so far are there
abbrev pub invariant-loop-k : goal.invariant-loop-k
invariant-loop-k g l =
    KeepSame l.part (l.fn.part ++ sources_of (g.K.OutcomeKind.size l.piece.numbered.now.kind.now) l.piece.numbered.now.named.now.sentence l.piece.numbered.now.base l.piece.from (l.piece.from + l.k))
