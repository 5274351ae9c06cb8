use Rattle.clause_form.proofs.SideLaws.{pair_minus, pair_plus}
use Rattle.clause_form.proofs.signed.pair_of.Goals as goal

pub returns-then-positive : goal.returns-then-positive
returns-then-positive c = λ size x y h k. rw c.if-positive.true (pair_plus size c.pair.result c.args.l c.args.k x y c.pair.ensures.counts (rw (c.opposite.ensures, c.opposite-then-positive.ensures) at c.pair.ensures.clauses) h k)

pub returns : goal.returns
returns c = λ size x y h k. rw c.if-positive.false (pair_minus size c.pair-2.result c.args.l c.args.k x y c.pair-2.ensures.counts (rw (c.opposite-2.ensures, c.opposite-3.ensures) at c.pair-2.ensures.clauses) h k)
