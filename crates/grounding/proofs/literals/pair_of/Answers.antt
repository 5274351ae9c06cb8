use Rattle.vocab.specs.Tree.{Same, tree_of}
use Rattle.clause_form.proofs.SoundLaws.{sound, sound_here}
use Rattle.grounding.proofs.literals.pair_of.Goals as goal

pub atom_of-requires-clause-fits : goal.atom_of-requires-clause-fits
atom_of-requires-clause-fits g c = λ κs out.
    let size = g.K.OutcomeKind.size c.args.kind.now in
    let f = tree_of c.in-Same.left.value in
    let h = tree_of c.in-Same.right.value in
    let parts = sound size (Same f h) c.args.env.now (rw c.in-Same.is at c.requires) in
    rw c.deref.ensures (sound_here size f c.args.env.now parts.1)

pub atom_of-requires-2-clause-fits : goal.atom_of-requires-2-clause-fits
atom_of-requires-2-clause-fits g c = λ κs out.
    let size = g.K.OutcomeKind.size c.args.kind.now in
    let f = tree_of c.in-Same.left.value in
    let h = tree_of c.in-Same.right.value in
    let parts = sound size (Same f h) c.args.env.now (rw c.in-Same.is at c.requires) in
    rw c.deref-2.ensures (sound_here size h c.args.env.now parts.2)
