use Rattle.std.proofs.Common.{subst}
use Rattle.verdict_reading.specs.declared.text_collector.TextCollector.{TextCollector}
use Rattle.verdict_reading.specs.Told.{HasCollected}
use Rattle.verdict_reading.proofs.EndLemmas.{report_ends, sharp_ends}
use Rattle.verdict_reading.proofs.reading.end_of.Goals as goal

pub returns-in-Report : goal.returns-in-Report
returns-in-Report c = λ study sharp lines rest h number same.
    report_ends study lines rest sharp c.args.whole c.args.ended c.in-Report.collector c.args.line c.end_of_report.result (subst (λ (x : TextCollector). HasCollected study sharp x lines) c.in-Report.is h) number
    (λ s k. c.end_of_report.ensures study s rest k same)

pub returns-in-Sharp : goal.returns-in-Sharp
returns-in-Sharp c = λ study sharp lines rest h number same.
    sharp_ends study lines rest sharp c.args.whole c.args.ended c.in-Sharp.collector c.args.line c.end_of_sharp.result (subst (λ (x : TextCollector). HasCollected study sharp x lines) c.in-Sharp.is h) number
    (λ s k. c.end_of_sharp.ensures study s rest k same)
