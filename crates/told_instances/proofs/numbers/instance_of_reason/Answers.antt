use Rattle.std.proofs.Common.{◌≡◌, ◌≤◌, ℕ, sym, ap, ◌∙◌, subst, arith, length, Some}
use Rattle.std.specs.Prelude.{slice_get}
use Rattle.vocab.specs.Tree.{tree_of}
use Rattle.vocab.specs.Size.{Extent}
use Rattle.sharp_verdicts.specs.Instances.{number_at}
use Rattle.told_instances.specs.Numbered.{number_from, IsNumbered}
use Rattle.told_instances.specs.Told.{cited_instance}
use Rattle.told_instances.proofs.NumberLaws.{has_reason, within}
use Rattle.told_instances.proofs.numbers.instance_of_reason.Goals as goal

pub number_from-number-requires : goal.number_from-number-requires
number_from-number-requires c =
    let is : slice_get c.args.study.now.axioms c.in-Axiom.k ≡ Some c.get.result.now = rw (← c.axioms.ensures.axioms) c.get.ensures in
    let r = has_reason c.args.study.now c.in-Axiom.k c.in-Axiom.values c.get.result.now (tree_of c.sentence-sentence.result.now) c.axioms.ensures.study (rw c.in-Axiom.is at c.requires.reason) is c.sentence-sentence.ensures in
    subst (λ (size : Extent). IsNumbered size (tree_of c.sentence-sentence.result.now) c.in-Axiom.values 0) c.requires.size r.numbered

pub returns-in-Axiom-clause-value : goal.returns-in-Axiom-clause-value
returns-in-Axiom-clause-value c =
    let is : slice_get c.args.study.now.axioms c.in-Axiom.k ≡ Some c.get.result.now = rw (← c.axioms.ensures.axioms) c.get.ensures in
    let r = has_reason c.args.study.now c.in-Axiom.k c.in-Axiom.values c.get.result.now (tree_of c.sentence-sentence.result.now) c.axioms.ensures.study (rw c.in-Axiom.is at c.requires.reason) is c.sentence-sentence.ensures in
    let number : c.number_from-number.result ≡ number_at c.args.study.now c.in-Axiom.k c.in-Axiom.values =
    c.number_from-number.ensures ∙ ap (λ (size : Extent). number_from size (tree_of c.sentence-sentence.result.now) c.in-Axiom.values 0) (sym c.requires.size) ∙ r.is in
    sym (ap (cited_instance c.args.study.now) c.in-Axiom.is
    ∙ ap (λ (n : ℕ). Some (record { «axiom» = c.in-Axiom.k; number = n })) (sym number))

pub returns-in-Axiom-clause-small : goal.returns-in-Axiom-clause-small
returns-in-Axiom-clause-small c =
    let is : slice_get c.args.study.now.axioms c.in-Axiom.k ≡ Some c.get.result.now = rw (← c.axioms.ensures.axioms) c.get.ensures in
    let r = has_reason c.args.study.now c.in-Axiom.k c.in-Axiom.values c.get.result.now (tree_of c.sentence-sentence.result.now) c.axioms.ensures.study (rw c.in-Axiom.is at c.requires.reason) is c.sentence-sentence.ensures in
    let number : c.number_from-number.result ≡ number_from c.args.study.now.size (tree_of c.sentence-sentence.result.now) c.in-Axiom.values 0 =
    c.number_from-number.ensures ∙ ap (λ (size : Extent). number_from size (tree_of c.sentence-sentence.result.now) c.in-Axiom.values 0) (sym c.requires.size) in
    let few : length c.args.study.now.axioms ≤ 4000000 = c.axioms.ensures.study.few_axioms in
    (within c.args.study.now c.in-Axiom.k c.in-Axiom.values (rw c.in-Axiom.is at c.requires.reason) few, omega (arith, number, r.small))
