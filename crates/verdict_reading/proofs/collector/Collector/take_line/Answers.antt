use Rattle.std.proofs.Common.{sym, ap, ◌∙◌, subst}
use Rattle.vocab.specs.declared.kinds.Sort.TheVariants.{Profile}
use Rattle.vocab.specs.Size.{sort_count}
use Rattle.report.specs.Taken.{IsTaken}
use Rattle.verdict_reading.specs.Parts.{is_witness_row}
use Rattle.verdict_reading.proofs.CollectLemmas.{collected, refused}
use Rattle.verdict_reading.proofs.collector.Collector.take_line.Goals as goal

pub returns-in_ok-take-in-Ok : goal.returns-in_ok-take-in-Ok
returns-in_ok-take-in-Ok g c = λ s h.
    let study = c.args.subject.now.setting.study.now in
    collected study s c.args.text.now c.args.self.now h c.take_line.new.self c.take.new.self c.in-Ok.line c.count-rows.result c.conflicts-limit.result c.is_witness_row-of_witness.result
    (subst (IsTaken study s c.args.text.now c.take_line.new.self) c.in-Ok.is (c.in_ok-taken.ensures s h.told))
    (c.count-rows.ensures.value ∙ ap (λ size. sort_count size Profile) (c.space.ensures ∙ sym c.args.subject.now.setting.same))
    c.conflicts-limit.ensures
    (c.is_witness_row-of_witness.ensures ∙ ap is_witness_row (c.place.ensures s study h.told))
    c.in_ok-take-in-Ok.ensures

pub returns-in-Err : goal.returns-in-Err
returns-in-Err g c = λ s h.
    let study = c.args.subject.now.setting.study.now in
    refused study s c.args.text.now c.args.self.now h c.take_line.new.self c.in-Err.refusal c.args.self.now
    (subst (IsTaken study s c.args.text.now c.take_line.new.self) c.in-Err.is (c.in_ok-taken.ensures s h.told))
