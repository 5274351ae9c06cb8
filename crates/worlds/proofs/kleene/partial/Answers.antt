use Rattle.std.proofs.Common.{◌∙◌, sym}
use Rattle.vocab.specs.Tree.{tree_of}
use Rattle.meaning.proofs.KleeneLaws.{false_of_rules, true_of_rules}
use Rattle.worlds.proofs.kleene.partial.Goals as goal

pub returns-clause-refutes : goal.returns-clause-refutes
returns-clause-refutes g c = λ e table hold. false_of_rules (g.K.OutcomeKind.size c.args.kind.now) table c.args.board.now.literals (tree_of c.args.formula.now) c.args.env.now hold (sym (rw c.space.ensures at c.in-Ok.ensures.ok) ∙ e)

pub returns-clause-proves : goal.returns-clause-proves
returns-clause-proves g c = λ e table hold. true_of_rules (g.K.OutcomeKind.size c.args.kind.now) table c.args.board.now.literals (tree_of c.args.formula.now) c.args.env.now hold (sym (rw c.space.ensures at c.in-Ok.ensures.ok) ∙ e)
