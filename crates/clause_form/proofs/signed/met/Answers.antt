use Rattle.clause_form.proofs.signed.met.Goals as goal

pub returns-then-added : goal.returns-then-added
returns-then-added c = λ size xs ys p q. rw c.if-added.true (c.in_ok-rows.ensures size xs ys p.1 q.1)

pub returns : goal.returns
returns c = λ size xs ys p q. rw c.if-added.false (c.in_ok-rows-2.ensures size xs ys p.0 q.0 p.1 q.1)
