use Rattle.std.proofs.Common.{refl, sym, ◌∙◌, ap, false, true, None, Some, List, length, arith}
use Rattle.verdicts.specs.declared.refusals.Refusal.TheVariants.{Core}
use Rattle.report.proofs.WitnessLineLemmas.{number_same}
use Rattle.sharp_verdicts.specs.declared.instances.Cited.{Cited}
use Rattle.sharp_verdicts.specs.declared.refusals.SharpRefusal.TheVariants.{Report, Instance}
use Rattle.sharp_verdicts.specs.SharpFaults.{listed_instances}
use Rattle.sharp_verdicts.specs.SharpLines.{InstancesAre}
use Rattle.sharp_verdicts.specs.SharpPlaces.{AtInstances}
use Rattle.sharp_report.proofs.TakenLemmas.{unread, read_at, by_took}
use Rattle.sharp_report.proofs.StoryLemmas.{cites_story, told_core, core_fault, count_fault, count_right}
use Rattle.sharp_report.proofs.MarkLemmas.{other_number}
use Rattle.sharp_report.proofs.judging.SharpJudging.take_instances.Goals as goal

pub returns-in_default : goal.returns-in_default
returns-in_default g c = λ s h at.
    let study = c.args.subject.now.setting.study.now in
    unread study s c.args.text.now c.args.self.now (read_at study s AtInstances c.args.text.now None at (c.in_default.ensures study))

pub returns-then-not-have_axioms : goal.returns-then-not-have_axioms
returns-then-not-have_axioms g c = λ s h at.
    let study = c.args.subject.now.setting.study.now in
    let self = c.args.self.now in
    let n = c.in-Some.ensures study in
    let is = c.in_ok-self.ensures s.told.earlier (cites_story study s self h at) in
    let core = told_core study s self h at c.in_ok-self.field-0 c.core.result.now false is (c.core.ensures s.told study h.told) (sym c.if-not-have_axioms.true ∙ c.have_axioms.ensures) in
    by_took study s c.args.text.now self (InstancesAre n.0) (Some (Report Core)) (read_at study s AtInstances c.args.text.now (Some (InstancesAre n.0)) at n.1) refl (core_fault study s self h at self n.0 core)

pub returns-then-count-as_slice : goal.returns-then-count-as_slice
returns-then-count-as_slice g c = λ s h at.
    let study = c.args.subject.now.setting.study.now in
    let self = c.args.self.now in
    let n = c.in-Some.ensures study in
    let is = c.in_ok-self.ensures s.told.earlier (cites_story study s self h at) in
    let core = told_core study s self h at c.in_ok-self.field-0 c.core.result.now true is (c.core.ensures s.told study h.told) (sym c.if-not-have_axioms.false ∙ c.have_axioms.ensures) in
    let other = other_number n.0 (length c.as_slice.result.now) (length (listed_instances study s)) c.in-Some.count n.2 (omega (arith, c.as_slice.type_inv)) (ap (λ (cs : List Cited). length cs) (c.as_slice.ensures ∙ is)) c.if-count-as_slice.true in
    by_took study s c.args.text.now self (InstancesAre n.0) (Some Instance) (read_at study s AtInstances c.args.text.now (Some (InstancesAre n.0)) at n.1) refl (count_fault study s self h at self n.0 core other)

pub returns : goal.returns
returns g c = λ s h at.
    let study = c.args.subject.now.setting.study.now in
    let self = c.args.self.now in
    let n = c.in-Some.ensures study in
    let is = c.in_ok-self.ensures s.told.earlier (cites_story study s self h at) in
    let core = told_core study s self h at c.in_ok-self.field-0 c.core.result.now true is (c.core.ensures s.told study h.told) (sym c.if-not-have_axioms.false ∙ c.have_axioms.ensures) in
    let length_is = ap (λ (cs : List Cited). length cs) (c.as_slice.ensures ∙ is) in
    let same = number_same n.0 (length (listed_instances study s)) (omega (arith, c.as_slice.type_inv, length_is)) (sym n.2 ∙ c.if-count-as_slice.false ∙ length_is) in
    by_took study s c.args.text.now c.after_mark.new.self (InstancesAre n.0) None (read_at study s AtInstances c.args.text.now (Some (InstancesAre n.0)) at n.1) refl
    (count_right study s self h at c.after_mark.new.self n.0 core same (c.after_mark.ensures study s (record { told = h.told; marks = h.marks; instances = is })))
