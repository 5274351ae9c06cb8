use Rattle.std.proofs.Common.{◌≡◌, sym, ap₂, subst, ℕ, List, true, get_or}
use Rattle.meaning.specs.declared.cores.Witness.{Witness}
use Rattle.meaning.specs.declared.cores.Witness.TheVariants.{Open}
use Rattle.sharp_verdicts.specs.declared.instances.Cited.{Cited}
use Rattle.sharp_text.specs.Conditions.{is_mark_text}
use Rattle.texts.proofs.LoopLemmas.{spelled_stops, spelled_goes_on, spelled_ends}
use Rattle.report_text.proofs.ReportLemmas.{from_zero}
use Rattle.sharp_text.proofs.SharpLemmas.{mark_there, mark_text, marks_spelled}
use Rattle.texts.proofs.PourLemmas.{renamed}
use Rattle.sharp_text.proofs.marks.pour_marks.Goals as goal

pub pour_mark-requires-clause-can : goal.pour_mark-requires-clause-can
pour_mark-requires-clause-can g c = λ κs out.
    let item = c.index-marks-place.result in
    let instances : List Cited = c.args.instances.now in
    subst (λ (w : Witness). is_mark_text c.args.setting.now.study.now (get_or instances c.loop-place.place (record { «axiom» = 0; number = 0 })) w ≡ true) (sym c.index-marks-place.is)
    (mark_there (is_mark_text c.args.setting.now.study.now) instances c.args.marks.now c.loop-place.place (record { «axiom» = 0; number = 0 }) item c.requires c.loop-place-test.true)

pub returns-in_err-pour_mark : goal.returns-in_err-pour_mark
returns-in_err-pour_mark g c =
    let study = c.args.setting.now.study.now in
    let instances : List Cited = c.args.instances.now in
    let item = c.index-marks-place.result in
    renamed _ _ _ _ _ _ c.from_residual.result _ _ (marks_spelled study (is_mark_text study) instances 0 c.args.marks.now c.requires)
    (spelled_stops (mark_text study instances) c.args.marks.now 0 c.loop-place.place item _ _ _ _ _ _ c.loop-place.invariant _ _ _ c.in_err-pour_mark.field-0.0 c.from_residual.result _ c.loop-place-test.true
    (ap₂ (mark_text study instances) (from_zero c.loop-place.place) c.index-marks-place.is) c.from_residual.ensures.0 c.in_err-pour_mark.ensures)

pub loop-place-preserved : goal.loop-place-preserved
loop-place-preserved g c =
    let study = c.args.setting.now.study.now in
    let instances : List Cited = c.args.instances.now in
    let item = c.index-marks-place.result in
    spelled_goes_on (mark_text study instances) c.args.marks.now 0 c.loop-place.place item _ _ _ _ _ _ c.loop-place.invariant _ _ _ c.in_ok-pour_mark.field-0 _ c.loop-place-test.true
    (ap₂ (mark_text study instances) (from_zero c.loop-place.place) c.index-marks-place.is) c.in_ok-pour_mark.ensures

pub returns : goal.returns
returns g c =
    let study = c.args.setting.now.study.now in
    let instances : List Cited = c.args.instances.now in
    renamed _ _ _ _ _ _ _ _ _ (marks_spelled study (is_mark_text study) instances 0 c.args.marks.now c.requires)
    (spelled_ends (mark_text study instances) c.args.marks.now 0 c.loop-place.place (Open 0) _ _ _ _ _ _ c.loop-place.invariant tt c.loop-place-test.false)
