use Rattle.std.proofs.Common.{sym, ap, ◌∙◌, ltb-true, List, length, arith}
use Rattle.std.specs.Prelude.{slice_get}
use Rattle.std.proofs.lemmas.Option.{slice_get_within}
use Rattle.vocab.specs.Titled.{Titled}
use Rattle.verdicts.specs.Faults.{name_fault}
use Rattle.report.proofs.WitnessLineLemmas.{next_there_now, place_in_range, few_places, name_same}
use Rattle.report.proofs.judging.Judging.is_next.Goals as goal

pub get-axiom-requires : goal.get-axiom-requires
get-axiom-requires g c =
    let study = c.args.subject.now.setting.study.now in
    let at = next_there_now study c.args.self.now c.requires ∙ sym (c.next_core.ensures c.requires.standing study c.requires.stands) ∙ c.in-Some.is in
    omega (arith, ltb-true c.in-Some.place (length study.axioms) (place_in_range study c.args.self.now c.requires c.in-Some.place at), ap length c.axioms.ensures.axioms)

pub returns-in-None-clause-fault : goal.returns-in-None-clause-fault
returns-in-None-clause-fault g c = λ s h.
    let study = c.args.subject.now.setting.study.now in
    ap (λ o. name_fault study o c.args.name.now) (sym (c.next_core.ensures s study h) ∙ c.in-None.is)

pub returns-in-Some-clause-fault : goal.returns-in-Some-clause-fault
returns-in-Some-clause-fault g c = λ s h.
    let study = c.args.subject.now.setting.study.now in
    let there = ap (λ (xs : List Titled). slice_get xs c.in-Some.place) (sym c.axioms.ensures.axioms) ∙ c.get-axiom.ensures in
    ap (λ o. name_fault study o c.args.name.now) (sym (c.next_core.ensures s study h) ∙ c.in-Some.is)
    ∙ name_same study c.in-Some.place c.get-axiom.result.now c.args.name.now c.bytes.result.now c.bytes-in-Some.result.now c.eq.result there (c.bytes.ensures ∙ c.name.ensures) c.bytes-in-Some.ensures c.eq.ensures

pub returns-in-Some-clause-few : goal.returns-in-Some-clause-few
returns-in-Some-clause-few g c = λ _.
    let study = c.args.subject.now.setting.study.now in
    let at = next_there_now study c.args.self.now c.requires ∙ sym (c.next_core.ensures c.requires.standing study c.requires.stands) ∙ c.in-Some.is in
    omega (arith, slice_get_within c.args.self.now.core c.args.self.now.witnesses c.in-Some.place at, few_places study c.args.self.now c.requires, c.axioms.ensures.study.few_axioms)
