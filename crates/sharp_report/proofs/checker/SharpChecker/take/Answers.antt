use Rattle.sharp_report.proofs.SharpCheckerLemmas.{kept, still_ready_at, still_at, step_ready_at, step_at, read_so_far}
use Rattle.sharp_report.proofs.checker.SharpChecker.take.Goals as goal

pub judge-self-requires-clause-read : goal.judge-self-requires-clause-read
judge-self-requires-clause-read g c κs within =
    let self = c.args.self.now in
    read_so_far self.subject.setting.study.now self.progress.lines self.progress.fault self.progress.judging c.requires.room c.in-None.is c.requires.ready

pub returns-in-Some-clause-ready : goal.returns-in-Some-clause-ready
returns-in-Some-clause-ready g c =
    let self = c.args.self.now in
    still_ready_at self.subject.setting.study.now self.progress.lines self.progress.fault c.in-Some.field-0 self.progress.judging c.args.text.now c.in-Some.is c.requires.ready

pub returns-in-Some-clause-taken : goal.returns-in-Some-clause-taken
returns-in-Some-clause-taken g c =
    let self = c.args.self.now in
    kept self.progress.fault c.sufficed.result c.sufficed.ensures (λ _ lines h.
    still_at self.subject.setting.study.now self.progress.lines self.progress.fault c.in-Some.field-0 self.progress.judging lines c.args.text.now c.in-Some.is h)

pub returns-in-None-clause-ready : goal.returns-in-None-clause-ready
returns-in-None-clause-ready g c =
    let self = c.args.self.now in
    step_ready_at self.subject.setting.study.now self.progress.lines self.progress.fault c.judge-self.result self.progress.judging c.judge-self.new.self c.args.text.now c.in-None.is c.requires.ready c.judge-self.ensures

pub returns-in-None-clause-taken : goal.returns-in-None-clause-taken
returns-in-None-clause-taken g c =
    let self = c.args.self.now in
    kept c.judge-self.result c.sufficed-in-None.result c.sufficed-in-None.ensures (λ other lines h.
    step_at self.subject.setting.study.now self.progress.lines self.progress.fault c.judge-self.result self.progress.judging c.judge-self.new.self lines c.args.text.now c.in-None.is h c.judge-self.ensures other)
