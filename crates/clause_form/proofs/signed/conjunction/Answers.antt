use Rattle.std.proofs.Common.{true, subst}
use Rattle.meaning.specs.Written.{And}
use Rattle.clause_form.specs.Signed.{IsSide, rows_of}
use Rattle.clause_form.specs.declared.signed.Side.TheVariants.{Open}
use Rattle.clause_form.proofs.KnownLaws.{and_true_left, and_true_right}
use Rattle.clause_form.proofs.SideLaws.{and_side, known_side, same_side, some_side}
use Rattle.clause_form.proofs.signed.conjunction.Goals as goal

pub returns-in-Known-true : goal.returns-in-Known-true
returns-in-Known-true c = λ size x y h k.
    same_side size c.args.positive c.args.b (And x y) y (and_true_left x y (known_side size c.args.positive c.args.a c.in-Known-true.field-0 true x c.in-Known-true.is c.in-Known-true.field-0-test h)) k

pub returns-in-Known-true-b : goal.returns-in-Known-true-b
returns-in-Known-true-b c = λ size x y h k.
    same_side size c.args.positive (Open c.in-Open.p) (And x y) x (and_true_right x y (known_side size c.args.positive c.args.b c.in-Known-true-b.field-0 true y c.in-Known-true-b.is c.in-Known-true-b.field-0-test k))
    (subst (λ u. IsSide size c.args.positive u x) c.in-Open.is h)

pub returns-in_ok-rows-in-Open-b : goal.returns-in_ok-rows-in-Open-b
returns-in_ok-rows-in-Open-b c = λ size x y h k.
    let a = some_side size c.args.positive c.args.a c.in-Open.p x c.in-Open.is h in
    let b = some_side size c.args.positive c.args.b c.in-Open-b.q y c.in-Open-b.is k in
    and_side size c.args.positive c.in_ok-rows-in-Open-b.rows x y a.0 b.0
    (c.in_ok-rows-in-Open-b.ensures size (rows_of c.args.positive x) (rows_of c.args.positive y) a.1 b.1)
