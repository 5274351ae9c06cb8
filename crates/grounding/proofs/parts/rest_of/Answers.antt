use Rattle.std.proofs.Common.{◌≡◌}
use Rattle.vocab.specs.Tree.{tree_of}
use Rattle.meaning.specs.Clauses.{known_truth}
use Rattle.meaning.specs.declared.three.Three.TheVariants.{True}
use Rattle.meaning.specs.Written.{write_out}
use Rattle.grounding.proofs.FactLaws.{premise_rows}
use Rattle.grounding.proofs.parts.rest_of.Goals as goal

pub returns-in-Implies-clause-rows : goal.returns-in-Implies-clause-rows
returns-in-Implies-clause-rows c = λ size env known.
    let left = tree_of c.in-Implies.field-0.value in
    let right = tree_of c.in-Implies.right.value in
    let true_left : known_truth (write_out size left env) ≡ True = rw c.in-Implies.is at (known c.if-premise.true) in
    rw (c.in-Implies.is, c.deref.ensures) (premise_rows (write_out size left env) (write_out size right env) true_left)
