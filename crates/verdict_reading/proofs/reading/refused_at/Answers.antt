use Rattle.std.proofs.Common.{subst}
use Rattle.verdict_reading.specs.declared.text_collector.TextRefusal.{TextRefusal}
use Rattle.verdict_reading.specs.Told.{IsFirstFaulty}
use Rattle.verdict_reading.proofs.EndLemmas.{report_refused, sharp_text_refused}
use Rattle.verdict_reading.proofs.reading.refused_at.Goals as goal

pub returns-in-Report : goal.returns-in-Report
returns-in-Report c = λ study sharp whole lines rest h.
    report_refused study lines rest sharp whole c.args.line c.in-Report.refusal (subst (λ (x : TextRefusal). IsFirstFaulty study sharp lines c.args.line x) c.in-Report.is h)

pub returns-in-Sharp : goal.returns-in-Sharp
returns-in-Sharp c = λ study sharp whole lines rest h.
    sharp_text_refused study lines rest sharp whole c.args.line c.in-Sharp.refusal (subst (λ (x : TextRefusal). IsFirstFaulty study sharp lines c.args.line x) c.in-Sharp.is h)
