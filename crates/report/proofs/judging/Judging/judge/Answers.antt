use Rattle.std.proofs.Common.{subst}
use Rattle.report.specs.Taken.{IsTaken}
use Rattle.report.proofs.CheckerLemmas.{taken, refused}
use Rattle.report.proofs.judging.Judging.judge.Goals as goal

pub returns-in-Ok-Ok : goal.returns-in-Ok-Ok
returns-in-Ok-Ok g c = λ s h _.
    taken c.args.subject.now.setting.study.now c.args.line s c.args.text.now c.take_line.new.self c.in-Ok-Ok.field-0-0
    (subst (IsTaken c.args.subject.now.setting.study.now s c.args.text.now c.take_line.new.self) c.in-Ok-Ok.field-0-is (c.in-Ok-Ok.ensures s h))

pub returns-in-Ok-Err : goal.returns-in-Ok-Err
returns-in-Ok-Err g c = λ s h _.
    refused c.args.subject.now.setting.study.now c.args.line s c.args.text.now c.take_line.new.self c.in-Ok-Err.refusal
    (subst (IsTaken c.args.subject.now.setting.study.now s c.args.text.now c.take_line.new.self) c.in-Ok-Err.field-0-is (c.in-Ok-Err.ensures s h))
