use Rattle.std.proofs.Common.{sym}
use Rattle.std.proofs.lemmas.Option.{none-some}
use Rattle.vocab.specs.Size.{Extent}
use Rattle.verdicts.specs.Faults.{fault_of}
use Rattle.verdicts.specs.Lines.{So}
use Rattle.story.specs.Lines.{step_fault}
use Rattle.report.proofs.StoryLineLemmas.{refused, accepted, earlier_there, step_fault_is, with_step}
use Rattle.report.proofs.WitnessLineLemmas.{in_range}
use Rattle.report.proofs.judging.Judging.take_so.Goals as goal

pub invariant_of-grounds : goal.invariant_of-grounds
invariant_of-grounds g c = record {
  places = in_range c.args.subject.now.setting.study.now c.args.self.now c.requires.read;
  literals = earlier_there c.args.subject.now.setting.study.now c.args.self.now c.requires.read (g.K.OutcomeKind.size c.args.subject.now.setting.kind.now) c.as_slice.result.now c.args.subject.now.setting.same c.as_slice.ensures;
}

pub returns-in-Err : goal.returns-in-Err
returns-in-Err g c = λ s wanted h at held.
    let size : Extent = g.K.OutcomeKind.size c.args.subject.now.setting.kind.now in
    let study = c.args.subject.now.setting.study.now in
    let r = c.args.self.now in
    let l = c.args.literal.now in
    let es = c.as_slice.result.now in
    let same = step_fault_is study r s h l c.args.reason.now wanted size es held c.args.subject.now.setting.same c.as_slice.ensures in (
      refused (step_fault size study.axioms r.core es r.board.literals (record { literal = l; reason = c.args.reason.now })) (fault_of study s (So l wanted)) same c.in-Err.fault c.refusal_of.result c.in-Err.ensures.fault c.refusal_of.ensures,
      λ none. absurd (none-some _ (sym none)),
    )

pub returns : goal.returns
returns g c = λ s wanted h at held.
    let size : Extent = g.K.OutcomeKind.size c.args.subject.now.setting.kind.now in
    let study = c.args.subject.now.setting.study.now in
    let r = c.args.self.now in
    let l = c.args.literal.now in
    let es = c.as_slice.result.now in
    let same = step_fault_is study r s h l c.args.reason.now wanted size es held c.args.subject.now.setting.same c.as_slice.ensures in (
      accepted (step_fault size study.axioms r.core es r.board.literals (record { literal = l; reason = c.args.reason.now })) (fault_of study s (So l wanted)) same c.in-Ok.ensures.fault,
      λ _. with_step study r s h l wanted c.take_step.new.board c.in-Ok.ensures.size c.in-Ok.ensures.ok,
    )
