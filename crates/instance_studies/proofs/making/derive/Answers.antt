use Rattle.std.proofs.Common.{◌≡◌, ap, ◌∙◌, sym, length, arith, subst}
use Rattle.vocab.specs.Study.{IsStudy}
use Rattle.instance_studies.proofs.StudyLaws.{derived_is_study}
use Rattle.instance_studies.proofs.StudyLaws.{axioms_step, few_axioms, whole_study}
use Rattle.instance_studies.proofs.making.derive.Goals as goal

pub push_instance-requires-clause-few : goal.push_instance-requires-clause-few
push_instance-requires-clause-few c =
    let count = few_axioms c.args.instances.now.study.now c.as_slice-cited-items.result.now c.loop-cited.cited-index c.loop-cited.axioms c.loop-cited.invariant in
    let same : length c.as_slice-cited-items.result.now ≡ length c.args.instances.now.cited.now = ap length c.as_slice-cited-items.ensures in
    omega (arith, count, same, c.args.instances.now.own.few)

pub loop-cited-preserved : goal.loop-cited-preserved
loop-cited-preserved c = c.in_ok-push_instance.ensures ∙ axioms_step c.args.instances.now.study.now c.as_slice-cited-items.result.now c.loop-cited.cited-index _ c.loop-cited.axioms c.loop-cited-test.true c.loop-cited.invariant

pub new-requires : goal.new-requires
new-requires c =
    let made = whole_study c.args.instances.now.study.now c.args.instances.now.cited.now c.as_slice-cited-items.result.now c.loop-cited.cited-index _ c.axioms-axioms.ensures.study c.args.instances.now.own.present c.args.instances.now.own.few c.as_slice-cited-items.ensures c.loop-cited-test.false c.size.ensures c.conflicts.ensures c.loop-cited.invariant in
    subst IsStudy (sym made) (derived_is_study c.args.instances.now.study.now c.args.instances.now.cited.now c.axioms-axioms.ensures.study c.args.instances.now.own.present c.args.instances.now.own.few)

pub returns : goal.returns
returns c =
    c.new.ensures ∙ whole_study c.args.instances.now.study.now c.args.instances.now.cited.now c.as_slice-cited-items.result.now c.loop-cited.cited-index _ c.axioms-axioms.ensures.study c.args.instances.now.own.present c.args.instances.now.own.few c.as_slice-cited-items.ensures c.loop-cited-test.false c.size.ensures c.conflicts.ensures c.loop-cited.invariant
