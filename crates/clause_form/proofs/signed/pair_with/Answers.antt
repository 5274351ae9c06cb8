use Rattle.vocab.specs.Tree.{tree_of}
use Rattle.meaning.specs.Written.{write_out}
use Rattle.clause_form.proofs.SideLaws.{pair_known}
use Rattle.clause_form.proofs.signed.pair_with.Goals as goal

pub returns-in-Fact : goal.returns-in-Fact
returns-in-Fact g c = λ x h.
    let size = g.K.OutcomeKind.size c.args.kind.now in
    let y = write_out size (tree_of c.args.g.now) c.args.env.now in
    let k = rw c.in-Fact.is at c.atom_of.ensures in
    (pair_known size c.args.l c.in-Fact.k x y h k, c.pair_of.ensures size x y h k)
