use Rattle.std.proofs.Common.{◌≡◌, ◌≤◌, slice_get, slice_index_or, Some, subst}
use Rattle.vocab.specs.Limits.{instance_count}
use Rattle.vocab.specs.Size.{Extent}
use Rattle.rule_check.proofs.CheckLemmas.{further, found}
use Rattle.rule_check.proofs.check.check_rule.Goals as goal
use Rattle.vocab.proofs.StudyLaws.{few_at, sentence_at}

pub invariant_of-trial-clause-sentence : goal.invariant_of-trial-clause-sentence
invariant_of-trial-clause-sentence g c =
    let place = slice_index_or c.args.places.now c.loop-place.place-index 0 in
    let at : slice_get c.args.setting.now.study.now.axioms place ≡ Some c.get-named.result.now = rw c.axioms-axioms.ensures.axioms at c.get-named.ensures in
    rw (← c.args.setting.now.same) (sentence_at c.args.setting.now.study.now place c.get-named.result.now c.axioms-axioms.ensures.study at)

pub invariant_of-trial-clause-few : goal.invariant_of-trial-clause-few
invariant_of-trial-clause-few g c =
    let place = slice_index_or c.args.places.now c.loop-place.place-index 0 in
    let at : slice_get c.args.setting.now.study.now.axioms place ≡ Some c.get-named.result.now = rw c.axioms-axioms.ensures.axioms at c.get-named.ensures in
    subst (λ (size : Extent). instance_count size c.get-named.result.now.sentence ≤ 40000000) c.args.setting.now.same (few_at c.args.setting.now.study.now place c.get-named.result.now c.axioms-axioms.ensures.study at)

pub returns-in-Some : goal.returns-in-Some
returns-in-Some g c =
    let place = slice_index_or c.args.places.now c.loop-place.place-index 0 in
    let at : slice_get c.args.setting.now.study.now.axioms place ≡ Some c.get-named.result.now = rw c.axioms-axioms.ensures.axioms at c.get-named.ensures in
    rw c.name-name.ensures
    (found c.args.setting.now.study.now c.args.table.now c.args.places.now c.loop-place.place-index c.get-named.result.now c.requires.places c.loop-place-test.true at c.in-Some.instance
    (rw c.args.setting.now.same (rw c.in-Some.is at c.in_ok-instance.ensures))
    c.loop-place.invariant)

pub loop-place-preserved : goal.loop-place-preserved
loop-place-preserved g c =
    let place = slice_index_or c.args.places.now c.loop-place.place-index 0 in
    let at : slice_get c.args.setting.now.study.now.axioms place ≡ Some c.get-named.result.now = rw c.axioms-axioms.ensures.axioms at c.get-named.ensures in
    further c.args.setting.now.study.now c.args.table.now c.args.places.now c.loop-place.place-index c.get-named.result.now c.loop-place-test.true at
    (rw c.args.setting.now.same (rw c.in_default.is at c.in_ok-instance.ensures))
    c.loop-place.invariant
