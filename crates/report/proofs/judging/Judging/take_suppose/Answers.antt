use Rattle.std.proofs.Common.{sym}
use Rattle.std.proofs.lemmas.Option.{none-some}
use Rattle.verdicts.specs.Faults.{fault_of}
use Rattle.verdicts.specs.Lines.{Suppose}
use Rattle.story.specs.Lines.{supposition_fault}
use Rattle.report.proofs.StoryLineLemmas.{refused, accepted, suppose_fault_is, no_step_yet, with_supposed}
use Rattle.report.proofs.judging.Judging.take_suppose.Goals as goal

pub returns-in-Err : goal.returns-in-Err
returns-in-Err g c = λ s h at.
    let study = c.args.subject.now.setting.study.now in
    let final = c.is_last_lemma-final_one.result in
    let r = c.args.self.now in
    let l = c.args.literal.now in
    let same = suppose_fault_is study r s h l final (c.is_last_lemma-final_one.ensures s study h) in (
      refused (supposition_fault final r.board.literals l) (fault_of study s (Suppose l)) same c.in-Err.fault c.refusal_of.result c.in-Err.ensures.fault c.refusal_of.ensures,
      λ none. absurd (none-some _ (sym none)),
    )

pub returns : goal.returns
returns g c = λ s h at.
    let study = c.args.subject.now.setting.study.now in
    let final = c.is_last_lemma-final_one.result in
    let r = c.args.self.now in
    let l = c.args.literal.now in
    let same = suppose_fault_is study r s h l final (c.is_last_lemma-final_one.ensures s study h) in (
      accepted (supposition_fault final r.board.literals l) (fault_of study s (Suppose l)) same c.in-Ok.ensures.fault,
      λ _. with_supposed study r s h l c.push.new.self c.suppose.new.board (no_step_yet study r s h c.requires.read at) c.in_ok-push.ensures.ok c.in-Ok.ensures.size c.in-Ok.ensures.ok,
    )
