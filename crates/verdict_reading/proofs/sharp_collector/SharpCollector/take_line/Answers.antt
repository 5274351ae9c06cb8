use Rattle.std.proofs.Common.{sym, ap, ◌∙◌, subst}
use Rattle.vocab.specs.declared.kinds.Sort.TheVariants.{Profile}
use Rattle.vocab.specs.Size.{sort_count}
use Rattle.sharp_report.specs.SharpStands.{IsSharpTaken}
use Rattle.verdict_reading.specs.Parts.{is_mark_row}
use Rattle.verdict_reading.proofs.SharpCollectLemmas.{sharp_collected, sharp_refused}
use Rattle.verdict_reading.proofs.sharp_collector.SharpCollector.take_line.Goals as goal

pub returns-in_ok-take_sharp-in-Ok : goal.returns-in_ok-take_sharp-in-Ok
returns-in_ok-take_sharp-in-Ok g c = λ s h.
    let study = c.args.subject.now.setting.study.now in
    sharp_collected study s c.args.text.now c.args.self.now h c.take_line.new.self c.take_sharp.new.self c.in-Ok.line c.count-rows.result c.conflicts-limit.result c.is_mark_row-of_mark.result
    (subst (IsSharpTaken study s c.args.text.now c.take_line.new.self) c.in-Ok.is (c.in_ok-taken.ensures s h.told))
    (c.count-rows.ensures.value ∙ ap (λ size. sort_count size Profile) (c.space.ensures ∙ sym c.args.subject.now.setting.same))
    c.conflicts-limit.ensures
    (c.is_mark_row-of_mark.ensures ∙ ap is_mark_row (c.place.ensures study s h.told))
    c.in_ok-take_sharp-in-Ok.ensures

pub returns-in-Err : goal.returns-in-Err
returns-in-Err g c = λ s h.
    let study = c.args.subject.now.setting.study.now in
    sharp_refused study s c.args.text.now c.args.self.now h c.take_line.new.self c.in-Err.refusal c.args.self.now
    (subst (IsSharpTaken study s c.args.text.now c.take_line.new.self) c.in-Err.is (c.in_ok-taken.ensures s h.told))
