use Rattle.std.proofs.Common.{◌≡◌, ◌∙◌, ap, refl, sym}
use Rattle.vocab.specs.declared.kinds.Kind.TheVariants.{Sets}
use Rattle.vocab.specs.Size.{Extent}
use Rattle.command_parts.specs.declared.answer.Answer.TheVariants.{OtherKind}
use Rattle.command_parts.specs.declared.studies.Opened.{Opened}
use Rattle.command_parts.proofs.PairLemmas.{second_judged, first_refused, first_stopped}
use Rattle.check_commands.proofs.GainLemmas.{gain_command, gain_rows, no_study_row, other_row, sets_taken}
use Rattle.check_commands.proofs.gain.gain.Goals as goal

pub returns-in-Sets : goal.returns-in-Sets
returns-in-Sets g c =
    let told = g.S.Shelf.files c.args.shelf.now in
    let question = c.in-Ok-Study.whole.study in
    let read = rw c.in-Ok-Study.field-0-is at c.in-Ok-Study.ensures.opened in
    let sets : question.size.kind ≡ Sets = ap (λ (s : Extent). s.kind) (sym c.size.ensures) ∙ sym c.kind.ensures ∙ c.in-Sets.is in
    second_judged _ c.args.study.now c.args.report.now (gain_command c.args.study.now c.args.report.now)
    told _ (g.S.Shelf.left c.open_study.new.shelf) _ (g.S.Shelf.faults c.open_study.new.shelf) c.open_study.ensures.others _ _
    c.judge_gain.result (sets_taken told c.args.study.now c.args.report.now question sets read) c.open_study.ensures.none_fell
    (gain_rows told c.args.study.now c.args.report.now question c.judge_gain.result sets read (rw c.open_study.ensures.same at c.judge_gain.ensures.said))
    c.judge_gain.ensures.status c.judge_gain.ensures.has_text c.judge_gain.ensures.fault c.judge_gain.ensures.others

pub returns-in-Ok-Study : goal.returns-in-Ok-Study
returns-in-Ok-Study g c =
    let told = g.S.Shelf.files c.args.shelf.now in
    let question = c.in-Ok-Study.whole.study in
    let read = rw c.in-Ok-Study.field-0-is at c.in-Ok-Study.ensures.opened in
    let other : question.size.kind ≡ Sets → ⊥ = λ e. c.in_default.not-Sets (c.kind.ensures ∙ ap (λ (s : Extent). s.kind) c.size.ensures ∙ e) in
    first_refused _ c.args.study.now c.args.report.now (gain_command c.args.study.now c.args.report.now) told _ _ _ _ c.open_study.ensures.others
    OtherKind (record { ends = refl; no_verdict = refl; no_logs = refl; no_sharp = refl }) tt (other_row told c.args.study.now c.args.report.now question other read)

pub returns-in-Ok-Refused : goal.returns-in-Ok-Refused
returns-in-Ok-Refused g c =
    let told = g.S.Shelf.files c.args.shelf.now in
    let refuses = rw c.in-Ok-Refused.field-0-is at c.in-Ok-Refused.ensures.opened in
    first_refused _ c.args.study.now c.args.report.now (gain_command c.args.study.now c.args.report.now) told _ _ _ _ c.open_study.ensures.others
    c.in-Ok-Refused.answer refuses.bare refuses.has_text (no_study_row told c.args.study.now c.args.report.now c.in-Ok-Refused.answer refuses)

pub returns : goal.returns
returns g c =
    first_stopped _ c.args.study.now c.args.report.now (gain_command c.args.study.now c.args.report.now) (g.S.Shelf.files c.args.shelf.now) _ _ _ _ c.open_study.ensures.others
    {T = Opened} c.in-Err.stop c.in-Err.ensures.fault
