use Rattle.std.proofs.Common.{sym, ◌∙◌, ap, subst, [], ◌∷◌, ◌++◌}
use Rattle.vocab.specs.declared.kinds.Sort.TheVariants.{Profile}
use Rattle.vocab.specs.Size.{sort_count}
use Rattle.sharp_report.specs.SharpStands.{IsSharpTaken}
use Rattle.sharp_report.proofs.MarkLemmas.{has_table, row_stands, row_taken, last_row}
use Rattle.sharp_report.proofs.judging.SharpJudging.take_row.Goals as goal

pub take_table-fault-requires-clause-table : goal.take_table-fault-requires-clause-table
take_table-fault-requires-clause-table g c κs within =
    let study = c.args.subject.now.setting.study.now in
    has_table study c.args.self.now c.push.new.self c.args.text.now c.in-Some.profile c.in-Some.outcome c.requires.read c.requires.place (c.in-Some.ensures study c.args.subject.now.setting.same) c.in_ok-push.ensures.ok
    (sym c.len-2.ensures ∙ c.if-len-count.true ∙ c.count.ensures.value ∙ ap (λ size. sort_count size Profile) (c.space.ensures ∙ sym c.args.subject.now.setting.same))

pub returns-then-len-count : goal.returns-then-len-count
returns-then-len-count g c = λ s h at.
    let study = c.args.subject.now.setting.study.now in
    let self = c.args.self.now in
    let read = c.in-Some.ensures study c.args.subject.now.setting.same in
    subst (IsSharpTaken study s c.args.text.now c.take_table-fault.new.self) (sym c.told_unless.ensures)
    (last_row study s self c.args.text.now c.in-Some.profile c.in-Some.outcome h at read c.push.new.self c.take_table-fault.new.self c.take_table-fault.result c.in_ok-push.ensures.ok (c.if-profile-len.false ∙ c.len.ensures)
    (sym c.len-2.ensures ∙ c.if-len-count.true ∙ c.count.ensures.value ∙ ap (λ size. sort_count size Profile) (c.space.ensures ∙ sym c.args.subject.now.setting.same))
    (c.take_table-fault.ensures (record s { rows = s.rows ++ c.in-Some.outcome ∷ [] }) (row_stands study s self c.args.text.now c.in-Some.profile c.in-Some.outcome h at read c.push.new.self c.in_ok-push.ensures.ok) at))

pub returns-else-len-count : goal.returns-else-len-count
returns-else-len-count g c = λ s h at.
    let study = c.args.subject.now.setting.study.now in
    row_taken study s c.args.self.now c.args.text.now c.in-Some.profile c.in-Some.outcome h at (c.in-Some.ensures study c.args.subject.now.setting.same) c.push.new.self c.in_ok-push.ensures.ok (c.if-profile-len.false ∙ c.len.ensures)
    (λ e. c.if-len-count.false (c.len-2.ensures ∙ e ∙ ap (λ size. sort_count size Profile) (c.args.subject.now.setting.same ∙ sym c.space.ensures) ∙ sym c.count.ensures.value))
