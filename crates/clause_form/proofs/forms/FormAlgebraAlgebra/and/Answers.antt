use Rattle.std.proofs.Common.{true, subst}
use Rattle.meaning.specs.Clauses.{minus, plus}
use Rattle.meaning.specs.Written.{And}
use Rattle.clause_form.specs.Forms.{IsForm}
use Rattle.clause_form.specs.declared.forms.Form.TheVariants.{Open}
use Rattle.clause_form.proofs.KnownLaws.{and_open, and_true_left, and_true_right}
use Rattle.clause_form.proofs.FormLaws.{known_form, open_form, opened_form, same_form}
use Rattle.clause_form.proofs.SomeLaws.{some_minus}
use Rattle.clause_form.proofs.forms.FormAlgebraAlgebra.and.Goals as goal

pub returns-in-Known-true-clause-ok : goal.returns-in-Known-true-clause-ok
returns-in-Known-true-clause-ok g c = λ x y h k.
    let size = g.K.OutcomeKind.size c.args.self.now.kind.now in
    same_form size c.args.b (And x y) y (and_true_left x y (known_form size c.args.a c.in-Known-true.field-0 true x c.in-Known-true.is c.in-Known-true.field-0-test h)) k

pub returns-in-Known-true-b-clause-ok : goal.returns-in-Known-true-b-clause-ok
returns-in-Known-true-b-clause-ok g c = λ x y h k.
    let size = g.K.OutcomeKind.size c.args.self.now.kind.now in
    same_form size (Open c.in-Open.p c.in-Open.m) (And x y) x (and_true_right x y (known_form size c.args.b c.in-Known-true-b.field-0 true y c.in-Known-true-b.is c.in-Known-true-b.field-0-test k))
    (subst (λ u. IsForm size u x) c.in-Open.is h)

pub returns-in_ok-falsity-in-Open-b-clause-ok : goal.returns-in_ok-falsity-in-Open-b-clause-ok
returns-in_ok-falsity-in-Open-b-clause-ok g c = λ x y h k.
    let size = g.K.OutcomeKind.size c.args.self.now.kind.now in
    let a = open_form size c.args.a c.in-Open.p c.in-Open.m x c.in-Open.is h in
    let b = open_form size c.args.b c.in-Open-b.q c.in-Open-b.n y c.in-Open-b.is k in
    opened_form size c.in_ok-truth-in-Open-b.truth c.in_ok-falsity-in-Open-b.falsity (And x y) _ _ (and_open x y a.0 b.0)
    (c.in_ok-truth-in-Open-b.ensures size (plus x) (plus y) a.1 b.1)
    (c.in_ok-falsity-in-Open-b.ensures size (minus x) (minus y) (some_minus x a.0) (some_minus y b.0) a.2 b.2)
