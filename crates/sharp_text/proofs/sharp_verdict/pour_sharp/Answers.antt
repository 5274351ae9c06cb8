use Rattle.sharp_verdicts.specs.Right.{pointed}
use Rattle.sharp_text.proofs.SharpLemmas.{sharp_is}
use Rattle.texts.proofs.PourLemmas.{renamed, stopped, followed}
use Rattle.sharp_text.proofs.sharp_verdict.pour_sharp.Goals as goal

pub returns-in_err-pour : goal.returns-in_err-pour
returns-in_err-pour g c =
    renamed _ _ _ _ _ _ c.from_residual.result _ _ (sharp_is c.args.study.now (pointed c.args.sharp.now))
    (stopped _ _ _ _ _ _ _ _ c.in_err-pour.field-0.0 c.from_residual.result c.from_residual.ensures.0 (rw (c.as_slice.ensures, c.as_slice-2.ensures, c.len.ensures) at c.in_err-pour.ensures))

pub returns-in_err-pour_marks : goal.returns-in_err-pour_marks
returns-in_err-pour_marks g c =
    let result = c.from_residual-in_err-pour_marks.result in
    renamed _ _ _ _ _ _ result _ _ (sharp_is c.args.study.now (pointed c.args.sharp.now))
    (followed _ _ _ _ _ _ _ _ _ _ _ c.in_ok-pour.field-0 result (rw (c.as_slice.ensures, c.as_slice-2.ensures, c.len.ensures) at c.in_ok-pour.ensures)
    (stopped _ _ _ _ _ _ _ _ c.in_err-pour_marks.field-0.0 result c.from_residual-in_err-pour_marks.ensures.0 (rw (c.as_slice-3.ensures, c.as_slice-4.ensures) at c.in_err-pour_marks.ensures)))

pub returns : goal.returns
returns g c =
    renamed _ _ _ _ _ _ c.pour-2.result _ _ (sharp_is c.args.study.now (pointed c.args.sharp.now))
    (followed _ _ _ _ _ _ _ _ _ _ _ c.in_ok-pour.field-0 c.pour-2.result (rw (c.as_slice.ensures, c.as_slice-2.ensures, c.len.ensures) at c.in_ok-pour.ensures)
    (followed _ _ _ _ _ _ _ _ _ _ _ c.in_ok-pour_marks.field-0 c.pour-2.result (rw (c.as_slice-3.ensures, c.as_slice-4.ensures) at c.in_ok-pour_marks.ensures) c.pour-2.ensures))
