use Rattle.std.proofs.Common.{◌≡◌, slice_get, Some}
use Rattle.vocab.specs.Size.{Extent}
use Rattle.report_text.proofs.ReportLemmas.{name_there, rule_witness, open_witness}
use Rattle.texts.proofs.PourLemmas.{renamed}
use Rattle.report_text.proofs.rules.pour_witness.Goals as goal

pub returns-in-Rule : goal.returns-in-Rule
returns-in-Rule g c =
    let study = c.args.setting.now.study.now in
    let size : Extent = g.K.OutcomeKind.size c.args.setting.now.kind.now in
    let at : slice_get study.axioms c.args.place ≡ Some c.get.result.now = rw c.axioms.ensures.axioms at c.get.ensures in
    rw c.in-Rule.is (renamed _ _ _ _ _ _ c.pour.result _ _ (rule_witness study size c.args.setting.now.same c.args.place c.in-Rule.table)
    (rw (c.bytes.ensures, c.name-name.ensures, name_there study.axioms c.args.place c.get.result.now at, c.from.ensures, c.count.ensures.value, c.space.ensures) at c.pour.ensures))

pub returns-in-Open : goal.returns-in-Open
returns-in-Open g c =
    let study = c.args.setting.now.study.now in
    let size : Extent = g.K.OutcomeKind.size c.args.setting.now.kind.now in
    let at : slice_get study.axioms c.args.place ≡ Some c.get.result.now = rw c.axioms.ensures.axioms at c.get.ensures in
    rw c.in-Open.is (renamed _ _ _ _ _ _ c.pour-in-Open.result _ _ (open_witness study size c.args.setting.now.same c.args.place c.in-Open.limit)
    (rw (c.bytes-in-Open.ensures, c.name-name.ensures, name_there study.axioms c.args.place c.get.result.now at, c.from-in-Open.ensures) at c.pour-in-Open.ensures))
