use Rattle.std.proofs.Common.{refl}
use Rattle.meaning.specs.declared.clauses.Counts.{Counts}
use Rattle.grounding.proofs.ToldLaws.{told_measure}
use Rattle.grounding.proofs.parts.measure_at.Goals as goal

pub returns-then-is_told_at : goal.returns-then-is_told_at
returns-then-is_told_at g c =
    let none : Counts = record { clauses = 0; literals = 0 } in
    let planned = c.args.planned.now in
    told_measure (g.K.OutcomeKind.size planned.kind.now) planned.named.now.sentence c.args.from c.args.k c.args.known c.requires.told (c.is_told_at.ensures c.if-is_told_at.true) none refl
