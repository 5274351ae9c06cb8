use Rattle.std.proofs.Common.{min}
use Rattle.grounding.specs.Kept.{Keeps}
use Rattle.grounding.specs.Pieces.{sources_of, part_start}
use Rattle.grounding.proofs.merging.keep_parts.Given as goal

abbrev pub invariant-loop-piece : goal.invariant-loop-piece
invariant-loop-piece g l = Keeps l.fn.seen l.fn.out l.seen l.out
    (sources_of (g.K.OutcomeKind.size l.stretch.numbered.now.kind.now) l.stretch.numbered.now.named.now.sentence l.stretch.numbered.now.base l.stretch.from (min (part_start l.stretch.from l.piece) l.stretch.to))
