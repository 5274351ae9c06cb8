use Rattle.std.proofs.Common.{sym, ap, ◌∙◌}
use Rattle.vocab.specs.declared.kinds.Sort.TheVariants.{Profile}
use Rattle.vocab.specs.Size.{sort_count}
use Rattle.report.proofs.TableLineLemmas.{part_taken, whole_taken}
use Rattle.report.proofs.judging.Judging.take_row.Goals as goal

pub returns-then-len-count : goal.returns-then-len-count
returns-then-len-count g c = λ s h.
    whole_taken c.args.subject.now.setting.study.now c.args.self.now c.take_table.new.self s c.args.profile c.args.outcome c.push.new.self c.take_table.result h
    (c.if-profile-len.false ∙ c.len.ensures) c.in_ok-push.ensures.ok
    (sym c.len-2.ensures ∙ c.if-len-count.true ∙ c.count.ensures.value ∙ ap (λ size. sort_count size Profile) (c.space.ensures ∙ sym c.args.subject.now.setting.same)) c.take_table.ensures

pub returns-else-len-count : goal.returns-else-len-count
returns-else-len-count g c = λ s h.
    part_taken c.args.subject.now.setting.study.now c.args.self.now s c.args.profile c.args.outcome c.push.new.self h
    (c.if-profile-len.false ∙ c.len.ensures) c.in_ok-push.ensures.ok
    (λ e. c.if-len-count.false (c.len-2.ensures ∙ e ∙ ap (λ size. sort_count size Profile) (c.args.subject.now.setting.same ∙ sym c.space.ensures) ∙ sym c.count.ensures.value))
