use Rattle.report_text.proofs.ReportLemmas.{impossible_text}
use Rattle.texts.proofs.PourLemmas.{renamed, stopped, followed}
use Rattle.report_text.proofs.verdict.pour_impossible.Goals as goal

pub returns-in_err-pour : goal.returns-in_err-pour
returns-in_err-pour g c =
    renamed _ _ _ _ _ _ c.from_residual.result _ _ (impossible_text c.args.setting.now.study.now c.args.core.now c.args.story.now c.args.witnesses.now)
    (stopped _ _ _ _ _ _ _ _ c.in_err-pour.field-0.0 c.from_residual.result c.from_residual.ensures.0 (rw (c.as_slice.ensures, c.as_slice-2.ensures) at c.in_err-pour.ensures))

pub returns-in_err-pour_witnesses : goal.returns-in_err-pour_witnesses
returns-in_err-pour_witnesses g c =
    let result = c.from_residual-in_err-pour_witnesses.result in
    renamed _ _ _ _ _ _ result _ _ (impossible_text c.args.setting.now.study.now c.args.core.now c.args.story.now c.args.witnesses.now)
    (followed _ _ _ _ _ _ _ _ _ _ _ c.in_ok-pour.field-0 result (rw (c.as_slice.ensures, c.as_slice-2.ensures) at c.in_ok-pour.ensures)
    (stopped _ _ _ _ _ _ _ _ c.in_err-pour_witnesses.field-0.0 result c.from_residual-in_err-pour_witnesses.ensures.0 (rw (c.as_slice-3.ensures, c.as_slice-4.ensures) at c.in_err-pour_witnesses.ensures)))

pub returns : goal.returns
returns g c =
    renamed _ _ _ _ _ _ c.pour-2.result _ _ (impossible_text c.args.setting.now.study.now c.args.core.now c.args.story.now c.args.witnesses.now)
    (followed _ _ _ _ _ _ _ _ _ _ _ c.in_ok-pour.field-0 c.pour-2.result (rw (c.as_slice.ensures, c.as_slice-2.ensures) at c.in_ok-pour.ensures)
    (followed _ _ _ _ _ _ _ _ _ _ _ c.in_ok-pour_witnesses.field-0 c.pour-2.result (rw (c.as_slice-3.ensures, c.as_slice-4.ensures) at c.in_ok-pour_witnesses.ensures) c.pour-2.ensures))
