use Rattle.std.proofs.Common.{sym, ◌∙◌, Some, None}
use Rattle.report.proofs.TableLineLemmas.{in_rest, rest_is, has_next, refused, witness_fault, witness_stands}
use Rattle.report.proofs.judging.Judging.take_witness.Goals as goal

pub returns-in_default : goal.returns-in_default
returns-in_default g c = λ s h. absurd (has_next c.args.subject.now.setting.study.now c.args.self.now s h (c.requires.table.next c.requires.place) (sym c.in_default.is ∙ c.next_core.ensures s c.args.subject.now.setting.study.now h))

pub check-requires-clause-places : goal.check-requires-clause-places
check-requires-clause-places g c κs within =
    in_rest _ c.args.self.now.core c.as_slice-2.result.now c.in-Some.next
    (rest_is c.as_slice-2.result.now c.in_ok-places.places.items c.as_slice.result.now c.args.self.now.core c.in-Some.next c.as_slice-2.ensures.value c.in_ok-places.ensures c.as_slice.ensures) c.requires.table.core

pub returns-in-Some-2 : goal.returns-in-Some-2
returns-in-Some-2 g c = λ s h. (
  witness_fault c.args.subject.now.setting.study.now c.args.self.now s c.in-Some.next c.as_slice-2.result.now (Some c.in-Some-2.refusal) h c.requires.place (sym c.in-Some.is ∙ c.next_core.ensures s c.args.subject.now.setting.study.now h)
      (rest_is c.as_slice-2.result.now c.in_ok-places.places.items c.as_slice.result.now c.args.self.now.core c.in-Some.next c.as_slice-2.ensures.value c.in_ok-places.ensures c.as_slice.ensures) (sym c.in-Some-2.is ∙ c.in_ok-refusal.ensures),
  refused _ c.in-Some-2.refusal,
)

pub returns : goal.returns
returns g c = λ s h. (
  witness_fault c.args.subject.now.setting.study.now c.args.self.now s c.in-Some.next c.as_slice-2.result.now None h c.requires.place (sym c.in-Some.is ∙ c.next_core.ensures s c.args.subject.now.setting.study.now h)
      (rest_is c.as_slice-2.result.now c.in_ok-places.places.items c.as_slice.result.now c.args.self.now.core c.in-Some.next c.as_slice-2.ensures.value c.in_ok-places.ensures c.as_slice.ensures) (sym c.in-None.is ∙ c.in_ok-refusal.ensures),
  λ _. witness_stands c.args.subject.now.setting.study.now c.args.self.now c.after_witness.new.self s c.new.result h c.requires.place c.requires.table.rule c.new.ensures (λ t k. c.after_witness.ensures t c.args.subject.now.setting.study.now k),
)
