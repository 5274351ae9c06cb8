use Rattle.vocab.specs.NamedView.{named_tree}
use Rattle.sorts.proofs.Answering.{whole_answer, whole_sorted, whole_quantified, whole_shallow, whole_truth}
use Rattle.sorts.proofs.resolving.resolve.Goals as goal

pub returns-clause-answer : goal.returns-clause-answer
returns-clause-answer c = whole_answer c.args.space.now (named_tree c.args.sentence.now) c.formula.result c.formula.ensures

pub returns-clause-sorted : goal.returns-clause-sorted
returns-clause-sorted c = whole_sorted c.args.space.now (named_tree c.args.sentence.now) c.formula.result c.formula.ensures

pub returns-clause-few_quantifiers : goal.returns-clause-few_quantifiers
returns-clause-few_quantifiers c = whole_quantified c.args.space.now (named_tree c.args.sentence.now) c.formula.result c.requires.few c.formula.ensures

pub returns-clause-shallow_tree : goal.returns-clause-shallow_tree
returns-clause-shallow_tree c = whole_shallow c.args.space.now (named_tree c.args.sentence.now) c.formula.result c.requires.shallow c.formula.ensures

pub returns-clause-same_truth : goal.returns-clause-same_truth
returns-clause-same_truth c = whole_truth c.args.space.now (named_tree c.args.sentence.now) c.formula.result c.formula.ensures
