use Rattle.std.proofs.Common.{refl, sym, ◌∙◌, subst}
use Rattle.report.specs.Taken.{IsTaken}
use Rattle.sharp_report.proofs.StoryLemmas.{line_named, report_taken, report_refused}
use Rattle.sharp_report.proofs.judging.SharpJudging.take_report.Goals as goal

pub cite-requires-clause-names : goal.cite-requires-clause-names
cite-requires-clause-names g c =
    let study = c.args.subject.now.setting.study.now in
    let i = c.requires.read in
    line_named study i.standing.told c.args.text.now c.take_line.new.self c.in-Ok.line (subst (IsTaken study i.standing.told c.args.text.now c.take_line.new.self) c.in-Ok.is (c.in_ok-taken.ensures i.standing.told i.stands.told))

pub returns-in_ok-cite-in-Ok : goal.returns-in_ok-cite-in-Ok
returns-in_ok-cite-in-Ok g c = λ s h at.
    let study = c.args.subject.now.setting.study.now in
    report_taken study s c.args.self.now c.args.text.now h at (record c.args.self.now { place = c.after_report-self.result; told = c.take_line.new.self; cited = c.cite.new.cited }) c.in-Ok.line
    (subst (IsTaken study s.told c.args.text.now c.take_line.new.self) c.in-Ok.is (c.in_ok-taken.ensures s.told h.told))
    (sym c.says_possible.ensures ∙ c.if-says_possible.false) c.in_ok-cite-in-Ok.ensures (λ t k. c.after_report-self.ensures t.place (c.place.ensures t study k)) refl refl

pub returns-in-Err : goal.returns-in-Err
returns-in-Err g c = λ s h at.
    let study = c.args.subject.now.setting.study.now in
    report_refused study s c.args.self.now c.args.text.now h at c.args.self.now c.take_line.new.self c.in-Err.refusal
    (subst (IsTaken study s.told c.args.text.now c.take_line.new.self) c.in-Err.is (c.in_ok-taken.ensures s.told h.told))
