use Rattle.std.proofs.Common.{◌≡◌, sym, ap₂, subst, ℕ, List, true}
use Rattle.std.specs.Prelude.{slice_index}
use Rattle.meaning.specs.declared.cores.Witness.{Witness}
use Rattle.meaning.specs.declared.cores.Witness.TheVariants.{Open}
use Rattle.verdicts.specs.Report.{is_witness_text}
use Rattle.texts.proofs.LoopLemmas.{spelled_stops, spelled_goes_on, spelled_ends}
use Rattle.report_text.proofs.ReportLemmas.{from_zero, witness_there, witness_text, witnesses_spelled}
use Rattle.texts.proofs.PourLemmas.{renamed}
use Rattle.report_text.proofs.rules.pour_witnesses.Goals as goal

pub pour_witness-requires-clause-can : goal.pour_witness-requires-clause-can
pour_witness-requires-clause-can g c = λ κs out.
    let item = c.index-witnesses-place.result in
    let core : List ℕ = c.args.core.now in
    subst (λ (w : Witness). is_witness_text c.args.setting.now.study.now (slice_index core c.loop-place.place) w ≡ true) (sym c.index-witnesses-place.is)
    (witness_there (is_witness_text c.args.setting.now.study.now) core c.args.witnesses.now c.loop-place.place item c.requires.can c.loop-place-test.true)

pub returns-in_err-pour_witness : goal.returns-in_err-pour_witness
returns-in_err-pour_witness g c =
    let study = c.args.setting.now.study.now in
    let core : List ℕ = c.args.core.now in
    let item = c.index-witnesses-place.result in
    renamed _ _ _ _ _ _ c.from_residual.result _ _ (witnesses_spelled study (is_witness_text study) core 0 c.args.witnesses.now c.requires.can)
    (spelled_stops (witness_text study core) c.args.witnesses.now 0 c.loop-place.place item _ _ _ _ _ _ c.loop-place.invariant _ _ _ c.in_err-pour_witness.field-0.0 c.from_residual.result _ c.loop-place-test.true
    (ap₂ (witness_text study core) (from_zero c.loop-place.place) c.index-witnesses-place.is) c.from_residual.ensures.0 c.in_err-pour_witness.ensures)

pub loop-place-preserved : goal.loop-place-preserved
loop-place-preserved g c =
    let study = c.args.setting.now.study.now in
    let core : List ℕ = c.args.core.now in
    let item = c.index-witnesses-place.result in
    spelled_goes_on (witness_text study core) c.args.witnesses.now 0 c.loop-place.place item _ _ _ _ _ _ c.loop-place.invariant _ _ _ c.in_ok-pour_witness.field-0 _ c.loop-place-test.true
    (ap₂ (witness_text study core) (from_zero c.loop-place.place) c.index-witnesses-place.is) c.in_ok-pour_witness.ensures

pub returns : goal.returns
returns g c =
    let study = c.args.setting.now.study.now in
    let core : List ℕ = c.args.core.now in
    renamed _ _ _ _ _ _ _ _ _ (witnesses_spelled study (is_witness_text study) core 0 c.args.witnesses.now c.requires.can)
    (spelled_ends (witness_text study core) c.args.witnesses.now 0 c.loop-place.place (Open 0) _ _ _ _ _ _ c.loop-place.invariant tt c.loop-place-test.false)
