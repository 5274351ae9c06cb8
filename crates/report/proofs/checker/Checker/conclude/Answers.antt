use Rattle.std.proofs.Common.{◌+◌, refl}
use Rattle.report.proofs.AnswerLemmas.{ends}
use Rattle.report.proofs.checker.Checker.conclude.Goals as goal

pub returns-in-None-clause-value : goal.returns-in-None-clause-value
returns-in-None-clause-value g c = λ lines h.
    let self = c.args.self.now in
    ends self.subject.setting.study.now lines self.progress c.args.rest.now (self.progress.lines + 1) c.end_of.result c.in-None.is refl h c.end_of.ensures
