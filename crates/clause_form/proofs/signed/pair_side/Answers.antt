use Rattle.vocab.specs.Tree.{tree_of}
use Rattle.meaning.specs.Written.{write_out}
use Rattle.clause_form.proofs.signed.pair_side.Goals as goal

pub returns-in_ok-side-in-Fact : goal.returns-in_ok-side-in-Fact
returns-in_ok-side-in-Fact g c =
    let size = g.K.OutcomeKind.size c.args.kind.now in
    c.in_ok-side-in-Fact.ensures (write_out size (tree_of c.args.f.now) c.args.env.now) (rw c.in-Fact.is at c.atom_of.ensures)
