use Rattle.std.proofs.Common.{false, subst}
use Rattle.meaning.specs.Written.{Or}
use Rattle.clause_form.specs.Signed.{IsSide, rows_of}
use Rattle.clause_form.specs.declared.signed.Side.TheVariants.{Open}
use Rattle.clause_form.proofs.KnownLaws.{or_false_left, or_false_right}
use Rattle.clause_form.proofs.SideLaws.{known_side, or_side, same_side, some_side}
use Rattle.clause_form.proofs.signed.disjunction.Goals as goal

pub returns-in-Known-false : goal.returns-in-Known-false
returns-in-Known-false c = λ size x y h k.
    same_side size c.args.positive c.args.b (Or x y) y (or_false_left x y (known_side size c.args.positive c.args.a c.in-Known-false.field-0 false x c.in-Known-false.is c.in-Known-false.field-0-test h)) k

pub returns-in-Known-false-b : goal.returns-in-Known-false-b
returns-in-Known-false-b c = λ size x y h k.
    same_side size c.args.positive (Open c.in-Open.p) (Or x y) x (or_false_right x y (known_side size c.args.positive c.args.b c.in-Known-false-b.field-0 false y c.in-Known-false-b.is c.in-Known-false-b.field-0-test k))
    (subst (λ u. IsSide size c.args.positive u x) c.in-Open.is h)

pub returns-in_ok-rows-in-Open-b : goal.returns-in_ok-rows-in-Open-b
returns-in_ok-rows-in-Open-b c = λ size x y h k.
    let a = some_side size c.args.positive c.args.a c.in-Open.p x c.in-Open.is h in
    let b = some_side size c.args.positive c.args.b c.in-Open-b.q y c.in-Open-b.is k in
    or_side size c.args.positive c.in_ok-rows-in-Open-b.rows x y a.0 b.0
    (c.in_ok-rows-in-Open-b.ensures size (rows_of c.args.positive x) (rows_of c.args.positive y) a.1 b.1)
