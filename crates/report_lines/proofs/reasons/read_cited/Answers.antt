use Rattle.std.proofs.Common.{◌≤◌, sym, subst}
use Rattle.vocab.specs.Formula.{quantifier_depth}
use Rattle.vocab.specs.Tree.{Tree}
use Rattle.report_lines.proofs.NameLemmas.{item_is}
use Rattle.report_lines.proofs.ReasonLemmas.{few_quantifiers}
use Rattle.report_lines.proofs.reasons.read_cited.Goals as goal

pub read_values-requires : goal.read_values-requires
read_values-requires c =
    let study = c.args.study.now in
    let place = c.in-Some-place_of.place in
    let item = item_is study.axioms c.axioms-axioms.result.now place c.get.result.now c.axioms-axioms.ensures.axioms c.get.ensures in
    let few = few_quantifiers study.size study.axioms place c.get.result.now c.axioms-axioms.ensures.study.sentences item in
    subst (λ (t : Tree). quantifier_depth t ≤ 12) (sym c.sentence.ensures) few
