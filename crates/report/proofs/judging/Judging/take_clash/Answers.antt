use Rattle.std.proofs.Common.{sym}
use Rattle.std.proofs.lemmas.Option.{none-some}
use Rattle.vocab.specs.Size.{Extent}
use Rattle.meaning.specs.StoryFaults.{reason_fault}
use Rattle.verdicts.specs.Faults.{fault_of}
use Rattle.verdicts.specs.Lines.{Clash}
use Rattle.report.proofs.StoryLineLemmas.{refused, accepted, earlier_there, few_earlier, clash_fault_is, told}
use Rattle.report.proofs.WitnessLineLemmas.{in_range}
use Rattle.report.proofs.judging.Judging.take_clash.Goals as goal

pub invariant_of-grounds : goal.invariant_of-grounds
invariant_of-grounds g c = record {
  places = in_range c.args.subject.now.setting.study.now c.args.self.now c.requires.read;
  literals = earlier_there c.args.subject.now.setting.study.now c.args.self.now c.requires.read (g.K.OutcomeKind.size c.args.subject.now.setting.kind.now) c.as_slice.result.now c.args.subject.now.setting.same c.as_slice.ensures;
}

pub end_lemma-requires : goal.end_lemma-requires
end_lemma-requires g c = record { room = few_earlier c.args.subject.now.setting.study.now c.args.self.now c.requires.read }

pub returns-in-Err : goal.returns-in-Err
returns-in-Err g c = λ s wanted h at held.
    let size : Extent = g.K.OutcomeKind.size c.args.subject.now.setting.kind.now in
    let study = c.args.subject.now.setting.study.now in
    let r = c.args.self.now in
    let es = c.as_slice.result.now in
    let same = clash_fault_is study r s h c.args.reason.now wanted size es held c.args.subject.now.setting.same c.as_slice.ensures in (
      refused (reason_fault size study.axioms r.core es r.board.literals c.args.reason.now) (fault_of study s (Clash wanted)) same c.in-Err.fault c.refusal_of.result c.in-Err.ensures.fault c.refusal_of.ensures,
      λ none. absurd (none-some _ (sym none)),
    )

pub returns : goal.returns
returns g c = λ s wanted h at held.
    let size : Extent = g.K.OutcomeKind.size c.args.subject.now.setting.kind.now in
    let study = c.args.subject.now.setting.study.now in
    let r = c.args.self.now in
    let es = c.as_slice.result.now in
    let same = clash_fault_is study r s h c.args.reason.now wanted size es held c.args.subject.now.setting.same c.as_slice.ensures in (
      accepted (reason_fault size study.axioms r.core es r.board.literals c.args.reason.now) (fault_of study s (Clash wanted)) same c.in-Ok.ensures.fault,
      λ _. c.after_lemma.ensures (told s wanted) study (c.in_ok-end_lemma.ensures s study wanted h),
    )
