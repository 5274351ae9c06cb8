use Rattle.std.proofs.Common.{subst}
use Rattle.verdict_reading.specs.declared.lines.Told.{Told}
use Rattle.verdict_reading.specs.Told.{TellsOf}
use Rattle.verdict_reading.proofs.reading.reading_at.Goals as goal

pub returns-in-Refused : goal.returns-in-Refused
returns-in-Refused c = λ study sharp lines rest h.
    c.refused_at.ensures study sharp c.args.whole lines rest (subst (λ (t : Told). TellsOf study sharp c.args.collector lines rest t) c.in-Refused.is h)

pub returns-in-Good : goal.returns-in-Good
returns-in-Good c = λ study sharp lines rest h.
    let k = subst (λ (t : Told). TellsOf study sharp c.args.collector lines rest t) c.in-Good.is h in
    c.end_of.ensures study sharp lines rest k.0 k.1 k.2
