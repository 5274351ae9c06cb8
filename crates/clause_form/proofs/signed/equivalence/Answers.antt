use Rattle.std.proofs.Common.{true, false, subst}
use Rattle.meaning.specs.Written.{Iff, Neg}
use Rattle.clause_form.specs.Forms.{IsForm}
use Rattle.clause_form.specs.declared.forms.Form.TheVariants.{Open}
use Rattle.clause_form.proofs.FormLaws.{known_form, open_form}
use Rattle.clause_form.proofs.KnownLaws.{iff_false_left, iff_false_right, iff_true_left, iff_true_right}
use Rattle.clause_form.proofs.SideLaws.{iff_side, same_side}
use Rattle.clause_form.proofs.signed.equivalence.Goals as goal

pub returns-in-Known-true : goal.returns-in-Known-true
returns-in-Known-true c = λ size x y h k.
    same_side size c.args.positive c.side_of_form.result (Iff x y) y (iff_true_left x y (known_form size c.args.a c.in-Known-true.field-0 true x c.in-Known-true.is c.in-Known-true.field-0-test h)) (c.side_of_form.ensures size y k)

pub returns-in-Known-false : goal.returns-in-Known-false
returns-in-Known-false c = λ size x y h k.
    same_side size c.args.positive c.negation.result (Iff x y) (Neg y) (iff_false_left x y (known_form size c.args.a c.in-Known-false.field-0 false x c.in-Known-false.is c.in-Known-false.field-0-test h))
    (c.negation.ensures size c.args.positive y (c.side_of_form-in-Known-false.ensures size y k))

pub returns-in-Known-true-b : goal.returns-in-Known-true-b
returns-in-Known-true-b c = λ size x y h k.
    same_side size c.args.positive c.side_of_form-in-Known-true-b.result (Iff x y) x (iff_true_right x y (known_form size c.args.b c.in-Known-true-b.field-0 true y c.in-Known-true-b.is c.in-Known-true-b.field-0-test k))
    (c.side_of_form-in-Known-true-b.ensures size x (subst (λ u. IsForm size u x) c.in-Open.is h))

pub returns-in-Known-false-b : goal.returns-in-Known-false-b
returns-in-Known-false-b c = λ size x y h k.
    same_side size c.args.positive c.negation-in-Known-false-b.result (Iff x y) (Neg x) (iff_false_right x y (known_form size c.args.b c.in-Known-false-b.field-0 false y c.in-Known-false-b.is c.in-Known-false-b.field-0-test k))
    (c.negation-in-Known-false-b.ensures size c.args.positive x (c.side_of_form-in-Known-false-b.ensures size x (subst (λ u. IsForm size u x) c.in-Open.is h)))

pub returns-in_ok-rows-in-Open-b : goal.returns-in_ok-rows-in-Open-b
returns-in_ok-rows-in-Open-b c = λ size x y h k.
    let a = open_form size c.args.a c.in-Open.p c.in-Open.m x c.in-Open.is h in
    let b = open_form size c.args.b c.in-Open-b.q c.in-Open-b.n y c.in-Open-b.is k in
    iff_side size c.args.positive c.in_ok-rows-in-Open-b.rows x y a.0 b.0 (c.in_ok-rows-in-Open-b.ensures size x y a.0 b.0 a.1 a.2 b.1 b.2)
