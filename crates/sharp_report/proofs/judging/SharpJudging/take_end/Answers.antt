use Rattle.std.proofs.Common.{None}
use Rattle.sharp_verdicts.specs.SharpPlaces.{AtSharpEnd}
use Rattle.sharp_report.proofs.TakenLemmas.{unread, read_at}
use Rattle.sharp_report.proofs.MarkLemmas.{end_taken}
use Rattle.sharp_report.proofs.judging.SharpJudging.take_end.Goals as goal

pub returns-then-not-is_end : goal.returns-then-not-is_end
returns-then-not-is_end g c = λ s h at.
    let study = c.args.subject.now.setting.study.now in
    unread study s c.args.text.now c.args.self.now (read_at study s AtSharpEnd c.args.text.now None at (c.if-not-is_end.ensures study))

pub returns : goal.returns
returns g c = λ s h at.
    let study = c.args.subject.now.setting.study.now in
    end_taken study s c.args.self.now c.args.text.now h at (c.if-not-is_end.ensures study)
