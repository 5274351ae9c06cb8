use Rattle.std.proofs.Common.{◌≡◌, length, arith, ap, Some}
use Rattle.std.specs.Prelude.{slice_get}
use Rattle.vocab.specs.Formula.{prefix_of}
use Rattle.vocab.specs.Tree.{tree_of}
use Rattle.vocab.proofs.PrefixLemmas.{prefix_within_depth}
use Rattle.instance_studies.proofs.StudyLaws.{number_within}
use Rattle.instance_studies.proofs.values.values_of.Goals as goal
use Rattle.vocab.proofs.StudyLaws.{shallow_at, few_at}

pub with_values-requires-clause-few : goal.with_values-requires-clause-few
with_values-requires-clause-few c =
    let is : slice_get c.args.study.now.axioms c.args.cited.«axiom» ≡ Some c.get.result.now = rw (← c.axioms.ensures.axioms) c.get.ensures in
    let deep = shallow_at c.args.study.now c.args.cited.«axiom» c.get.result.now c.axioms.ensures.study is in
    let short = prefix_within_depth c.get.result.now.sentence in
    let same : length (prefix_of (tree_of c.sentence-sentence.result.now)) ≡ length (prefix_of c.get.result.now.sentence) = ap (λ f. length (prefix_of f)) c.sentence-sentence.ensures in
    let none : length c.none.result ≡ 0 = ap length c.none.ensures in
    omega (arith, deep, short, same, none)

pub with_values-requires-clause-number : goal.with_values-requires-clause-number
with_values-requires-clause-number c =
    let is : slice_get c.args.study.now.axioms c.args.cited.«axiom» ≡ Some c.get.result.now = rw (← c.axioms.ensures.axioms) c.get.ensures in
    let most = few_at c.args.study.now c.args.cited.«axiom» c.get.result.now c.axioms.ensures.study is in
    let fits = number_within c.args.study.now c.args.cited c.get.result.now c.requires.present is in
    omega (arith, most, fits)
