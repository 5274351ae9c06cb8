use Rattle.std.proofs.Common.{◌∙◌}
use Rattle.axiom_library.specs.Library.{library}
use Rattle.axiom_library.proofs.Entries.{text_here, text_later}
use Rattle.axiom_library.proofs.finding.text_under.Goals as goal

pub returns-then-eq : goal.returns-then-eq
returns-then-eq c =
    c.text_at.ensures ∙ text_here (library c.args.kind) c.loop-place.place c.args.name.now c.in-Some.bytes.now c.in-Some.ensures (rw (← c.eq.ensures) c.if-eq.true) ∙ c.loop-place.invariant

pub loop-place-preserved : goal.loop-place-preserved
loop-place-preserved c = text_later (library c.args.kind) c.loop-place.place c.args.name.now c.in-Some.bytes.now c.in-Some.ensures (rw (← c.eq.ensures) c.if-eq.false) ∙ c.loop-place.invariant
