use Rattle.std.proofs.Common.{subst}
use Rattle.report.specs.Taken.{IsTaken}
use Rattle.sharp_report.proofs.StoryLemmas.{no_title, title_taken, title_good}
use Rattle.sharp_report.proofs.judging.SharpJudging.take_title.Goals as goal

pub returns-then-not-is_title : goal.returns-then-not-is_title
returns-then-not-is_title g c = λ s h at.
    let study = c.args.subject.now.setting.study.now in
    no_title study s c.args.self.now c.args.text.now at (c.if-not-is_title.ensures study)

pub returns-in-Ok : goal.returns-in-Ok
returns-in-Ok g c = λ s h at.
    let study = c.args.subject.now.setting.study.now in
    let own = c.own_title-own.result.now in
    title_taken study s c.args.self.now c.args.text.now own h at c.own_title-own.ensures c.take_line.new.self c.in-Ok.field-0 (c.if-not-is_title.ensures study)
    (subst (IsTaken study s.told own c.take_line.new.self) c.in-Ok.is (c.in_ok-taken.ensures s.told h.told))

pub returns-in-Err : goal.returns-in-Err
returns-in-Err g c = λ s h at.
    let study = c.args.subject.now.setting.study.now in
    let own = c.own_title-own.result.now in
    absurd (title_good study s c.args.self.now c.args.text.now own h at c.own_title-own.ensures c.take_line.new.self c.in-Err.refusal
    (subst (IsTaken study s.told own c.take_line.new.self) c.in-Err.is (c.in_ok-taken.ensures s.told h.told)))
