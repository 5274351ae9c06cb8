use Rattle.std.proofs.Common.{◌∙◌, sym}
use Rattle.vocab.specs.Tree.{tree_of}
use Rattle.meaning.proofs.WrittenLaws.{truth_written}
use Rattle.worlds.proofs.tarski.is_true.Goals as goal

pub returns : goal.returns
returns g c = (rw c.space.ensures at c.in-Ok.ensures.ok) ∙ sym (truth_written (g.K.OutcomeKind.size c.args.rule.now.kind.now) c.args.rule.now.table.now (tree_of c.args.formula.now) c.args.env.now)
