use Rattle.std.proofs.Common.{subst}
use Rattle.sharp_report.specs.SharpStands.{IsSharpTaken}
use Rattle.sharp_report.proofs.SharpCheckerLemmas.{taken, refused}
use Rattle.sharp_report.proofs.judging.SharpJudging.judge.Goals as goal

pub returns-in-Ok-Ok : goal.returns-in-Ok-Ok
returns-in-Ok-Ok g c = λ s count h i _.
    let study = c.args.subject.now.setting.study.now in
    taken study c.args.line count s c.args.text.now c.take_line.new.self c.in-Ok-Ok.field-0-0 i
    (subst (IsSharpTaken study s c.args.text.now c.take_line.new.self) c.in-Ok-Ok.field-0-is (c.in-Ok-Ok.ensures s h))

pub returns-in-Ok-Err : goal.returns-in-Ok-Err
returns-in-Ok-Err g c = λ s count h i _.
    let study = c.args.subject.now.setting.study.now in
    refused study c.args.line count s c.args.text.now c.take_line.new.self c.in-Ok-Err.refusal
    (subst (IsSharpTaken study s c.args.text.now c.take_line.new.self) c.in-Ok-Err.field-0-is (c.in-Ok-Err.ensures s h))
