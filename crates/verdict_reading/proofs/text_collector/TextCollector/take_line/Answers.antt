use Rattle.std.proofs.Common.{sym, subst}
use Rattle.verdict_reading.specs.declared.text_collector.TextCollector.{TextCollector}
use Rattle.verdict_reading.specs.declared.text_collector.TextCollector.TheVariants.{Report, Sharp}
use Rattle.verdict_reading.specs.Told.{HasCollected, IsLineCollected}
use Rattle.verdict_reading.proofs.TextLemmas.{report_taken, sharp_taken}
use Rattle.verdict_reading.proofs.text_collector.TextCollector.take_line.Goals as goal

pub returns-in_ok-fault-in-Report : goal.returns-in_ok-fault-in-Report
returns-in_ok-fault-in-Report g c = λ sharp lines h.
    let study = c.args.subject.now.setting.study.now in
    subst (IsLineCollected study sharp lines c.args.text.now (Report c.take_line.new.self)) (sym c.of_report.ensures)
    (report_taken study lines c.args.text.now sharp c.in-Report.collector c.take_line.new.self c.in_ok-fault-in-Report.fault
    (subst (λ (x : TextCollector). HasCollected study sharp x lines) c.in-Report.is h) (λ s k. c.in_ok-fault-in-Report.ensures s k))

pub returns-in_ok-fault-in-Sharp : goal.returns-in_ok-fault-in-Sharp
returns-in_ok-fault-in-Sharp g c = λ sharp lines h.
    let study = c.args.subject.now.setting.study.now in
    subst (IsLineCollected study sharp lines c.args.text.now (Sharp c.take_line-in-Sharp.new.self)) (sym c.of_sharp.ensures)
    (sharp_taken study lines c.args.text.now sharp c.in-Sharp.collector c.take_line-in-Sharp.new.self c.in_ok-fault-in-Sharp.fault
    (subst (λ (x : TextCollector). HasCollected study sharp x lines) c.in-Sharp.is h) (λ s k. c.in_ok-fault-in-Sharp.ensures s k))
