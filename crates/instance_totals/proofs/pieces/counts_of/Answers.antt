use Rattle.std.proofs.Common.{◌≡◌, ◌∙◌, ap, ap₂, sym, List, ℕ, [], Option, Some}
use Rattle.std.specs.Prelude.{slice_get}
use Rattle.std.specs.Option.{option_map_or}
use Rattle.vocab.specs.Formula.{body_of}
use Rattle.vocab.specs.Limits.{bases_of}
use Rattle.vocab.specs.Size.{Extent}
use Rattle.vocab.specs.Titled.{Titled}
use Rattle.vocab.specs.Tree.{Tree, tree_of}
use Rattle.meaning.specs.Instances.{instance_values}
use Rattle.meaning.specs.Measure.{measure_of}
use Rattle.meaning.specs.Written.{write_out}
use Rattle.meaning.proofs.DigitLaws.{are_one_to_one}
use Rattle.worlds.specs.Conditions.{IsFormulaAt}
use Rattle.instance_studies.proofs.StudyLaws.{number_within}
use Rattle.instance_totals.proofs.SumLemmas.{counted}
use Rattle.instance_totals.proofs.pieces.counts_of.Goals as goal
use Rattle.vocab.proofs.StudyLaws.{sentence_at}

pub measure-requires-after_bounds : goal.measure-requires-after_bounds
measure-requires-after_bounds g c κs within =
    let study = c.args.study.now in
    let cited = c.args.cited in
    let a : Titled = c.get.result.now in
    let at : slice_get study.axioms cited.«axiom» ≡ Some a = rw c.axioms.ensures.axioms at c.get.ensures in
    let is = sentence_at study cited.«axiom» a c.axioms.ensures.study at in
    let body : tree_of c.body.result.now ≡ body_of a.sentence = c.body.ensures ∙ ap body_of c.sentence-sentence.ensures in
    let values : c.values_of-values.result ≡ instance_values study.size a.sentence cited.number = c.values_of-values.ensures ∙ ap (λ (o : Option Titled). option_map_or (λ (b : Titled). instance_values study.size b.sentence cited.number) o []) at in
    let fits : IsFormulaAt study.size (body_of a.sentence) (instance_values study.size a.sentence cited.number) =
    c.bodies_have_values.ensures study.size a is _ ((are_one_to_one (bases_of study.size a.sentence)).digits cited.number (number_within study cited a c.requires.present at)) in
    rw (← c.requires.size, body, values) fits

pub returns : goal.returns
returns g c =
    let study = c.args.study.now in
    let cited = c.args.cited in
    let a : Titled = c.get.result.now in
    let at : slice_get study.axioms cited.«axiom» ≡ Some a = rw c.axioms.ensures.axioms at c.get.ensures in
    let body : tree_of c.body.result.now ≡ body_of a.sentence = c.body.ensures ∙ ap body_of c.sentence-sentence.ensures in
    let values : c.values_of-values.result ≡ instance_values study.size a.sentence cited.number = c.values_of-values.ensures ∙ ap (λ (o : Option Titled). option_map_or (λ (b : Titled). instance_values study.size b.sentence cited.number) o []) at in
    c.measure.ensures
    ∙ ap₂ (λ (f : Tree) (v : List ℕ). measure_of (write_out (g.K.OutcomeKind.size c.args.kind.now) f v)) body values
    ∙ ap (λ (e : Extent). measure_of (write_out e (body_of a.sentence) (instance_values study.size a.sentence cited.number))) (sym c.requires.size)
    ∙ sym (counted study cited a at)
