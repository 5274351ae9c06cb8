use Rattle.meaning.specs.Clauses.{joined}
use Rattle.clause_form.proofs.rows.crossed.Goals as goal

pub returns : goal.returns
returns c = λ size ws xs ys zs p q r s.
    c.in_ok-rows.ensures size (joined ws xs) (joined ys zs) (c.in_ok-first.ensures size ws xs p.0 q.0 p.1 q.1) (c.in_ok-rest.ensures size ys zs r.0 s.0 r.1 s.1)
