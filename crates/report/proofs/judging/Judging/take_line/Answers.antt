use Rattle.std.proofs.Common.{refl, sym, ◌∙◌, subst, ◌+◌}
use Rattle.verdicts.specs.Judge.{read_line}
use Rattle.report.specs.Taken.{Took}
use Rattle.report.proofs.CheckerLemmas.{next_number, line_of, unread, taken_line, refused_line}
use Rattle.report.proofs.judging.Judging.take_line.Goals as goal

pub returns-in_default : goal.returns-in_default
returns-in_default g c = λ s h.
    unread c.args.subject.now.setting.study.now s c.args.text.now c.args.self.now (sym c.in_default.is ∙ (rw c.args.subject.now.same at c.read_line.ensures s h.place (next_number c.args.subject.now.setting.study.now c.args.self.now s (c.len.result + 1) c.len.result h refl c.len.ensures)))

pub take-requires-clause-line : goal.take-requires-clause-line
take-requires-clause-line g c κs within = λ s h.
    line_of c.args.subject.now.setting.study.now (read_line c.args.subject.now.setting.study.now s c.args.text.now) c.in-Some.said (sym c.in-Some.is ∙ (rw c.args.subject.now.same at c.read_line.ensures s h.place (next_number c.args.subject.now.setting.study.now c.args.self.now s (c.len.result + 1) c.len.result h refl c.len.ensures)))

pub returns-in-None : goal.returns-in-None
returns-in-None g c = λ s h.
    let study = c.args.subject.now.setting.study.now in
    let l = line_of study (read_line study s c.args.text.now) c.in-Some.said (sym c.in-Some.is ∙ (rw c.args.subject.now.same at c.read_line.ensures s h.place (next_number study c.args.self.now s (c.len.result + 1) c.len.result h refl c.len.ensures))) in
    taken_line study s c.args.text.now l.0 c.take.new.self c.in-Some.said l.1 l.2
    (subst (Took study s l.0 c.take.new.self) c.in-None.is (c.in_ok-fault.ensures s l.0 h l.1 l.2))

pub returns-in-Some-fault : goal.returns-in-Some-fault
returns-in-Some-fault g c = λ s h.
    let study = c.args.subject.now.setting.study.now in
    let l = line_of study (read_line study s c.args.text.now) c.in-Some.said (sym c.in-Some.is ∙ (rw c.args.subject.now.same at c.read_line.ensures s h.place (next_number study c.args.self.now s (c.len.result + 1) c.len.result h refl c.len.ensures))) in
    refused_line study s c.args.text.now l.0 c.take.new.self c.in-Some-fault.refusal l.1
    (subst (Took study s l.0 c.take.new.self) c.in-Some-fault.is (c.in_ok-fault.ensures s l.0 h l.1 l.2))
