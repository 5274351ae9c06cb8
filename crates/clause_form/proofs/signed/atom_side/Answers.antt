use Rattle.vocab.specs.Tree.{tree_of}
use Rattle.meaning.specs.Written.{write_out}
use Rattle.clause_form.proofs.SideLaws.{fact_side}
use Rattle.clause_form.proofs.signed.atom_side.Goals as goal

pub returns-in-Fact : goal.returns-in-Fact
returns-in-Fact g c =
    let size = g.K.OutcomeKind.size c.args.kind.now in
    let w = write_out size (tree_of c.args.formula.now) c.args.env.now in
    fact_side size c.args.positive c.one.result c.in-Fact.lit w c.one.ensures.counts (rw c.with_sign.ensures at c.one.ensures.clauses) (rw c.in-Fact.is at c.short_of.ensures)
