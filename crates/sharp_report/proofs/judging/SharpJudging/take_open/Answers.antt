use Rattle.std.proofs.Common.{sym, ◌∙◌, ◌++◌, ◌∷◌, [], arith}
use Rattle.meaning.specs.declared.cores.Witness.TheVariants.{Open}
use Rattle.report.proofs.WitnessLineLemmas.{number_same}
use Rattle.sharp_report.proofs.MarkLemmas.{with_open, open_taken}
use Rattle.sharp_report.proofs.judging.SharpJudging.take_open.Goals as goal

pub returns : goal.returns
returns g c = λ s n h at held.
    let study = c.args.subject.now.setting.study.now in
    let same = number_same n study.conflicts (omega (arith, c.conflicts.ensures, c.conflicts.type_inv)) (sym held ∙ c.if-limit-conflicts.false ∙ c.conflicts.ensures) in
    open_taken study s c.args.self.now h at c.after_mark.new.self c.args.reason.now n (c.if-not-is_next.ensures.fault s h at) same
    (c.after_mark.ensures study (record s { marks = s.marks ++ Open n ∷ [] }) (with_open study s c.args.self.now h at n))
