use Rattle.meaning.specs.Clauses.{minus, plus}
use Rattle.clause_form.proofs.SideLaws.{iff_minus, iff_plus}
use Rattle.clause_form.proofs.SomeLaws.{some_minus, some_plus}
use Rattle.clause_form.proofs.signed.crossed_rows.Goals as goal

pub returns-then-positive : goal.returns-then-positive
returns-then-positive c = λ size x y e f p m q n.
    rw c.if-positive.true (iff_plus size c.in_ok-rows.rows x y e f
    (c.in_ok-rows.ensures size (minus x) (plus y) (plus x) (minus y) (some_minus x e, m) (some_plus y f, q) (some_plus x e, p) (some_minus y f, n)))

pub returns : goal.returns
returns c = λ size x y e f p m q n.
    rw c.if-positive.false (iff_minus size c.in_ok-rows-2.rows x y e f
    (c.in_ok-rows-2.ensures size (minus x) (minus y) (plus x) (plus y) (some_minus x e, m) (some_minus y f, n) (some_plus x e, p) (some_plus y f, q)))
