use Rattle.std.proofs.Common.{false, subst}
use Rattle.meaning.specs.Clauses.{minus, plus}
use Rattle.meaning.specs.Written.{Or}
use Rattle.clause_form.specs.Forms.{IsForm}
use Rattle.clause_form.specs.declared.forms.Form.TheVariants.{Open}
use Rattle.clause_form.proofs.KnownLaws.{or_false_left, or_false_right, or_open}
use Rattle.clause_form.proofs.FormLaws.{known_form, open_form, opened_form, same_form}
use Rattle.clause_form.proofs.SomeLaws.{some_plus}
use Rattle.clause_form.proofs.forms.FormAlgebraAlgebra.or.Goals as goal

pub returns-in-Known-false-clause-ok : goal.returns-in-Known-false-clause-ok
returns-in-Known-false-clause-ok g c = λ x y h k.
    let size = g.K.OutcomeKind.size c.args.self.now.kind.now in
    same_form size c.args.b (Or x y) y (or_false_left x y (known_form size c.args.a c.in-Known-false.field-0 false x c.in-Known-false.is c.in-Known-false.field-0-test h)) k

pub returns-in-Known-false-b-clause-ok : goal.returns-in-Known-false-b-clause-ok
returns-in-Known-false-b-clause-ok g c = λ x y h k.
    let size = g.K.OutcomeKind.size c.args.self.now.kind.now in
    same_form size (Open c.in-Open.p c.in-Open.m) (Or x y) x (or_false_right x y (known_form size c.args.b c.in-Known-false-b.field-0 false y c.in-Known-false-b.is c.in-Known-false-b.field-0-test k))
    (subst (λ u. IsForm size u x) c.in-Open.is h)

pub returns-in_ok-falsity-in-Open-b-clause-ok : goal.returns-in_ok-falsity-in-Open-b-clause-ok
returns-in_ok-falsity-in-Open-b-clause-ok g c = λ x y h k.
    let size = g.K.OutcomeKind.size c.args.self.now.kind.now in
    let a = open_form size c.args.a c.in-Open.p c.in-Open.m x c.in-Open.is h in
    let b = open_form size c.args.b c.in-Open-b.q c.in-Open-b.n y c.in-Open-b.is k in
    opened_form size c.in_ok-truth-in-Open-b.truth c.in_ok-falsity-in-Open-b.falsity (Or x y) _ _ (or_open x y a.0 b.0)
    (c.in_ok-truth-in-Open-b.ensures size (plus x) (plus y) (some_plus x a.0) (some_plus y b.0) a.1 b.1)
    (c.in_ok-falsity-in-Open-b.ensures size (minus x) (minus y) a.2 b.2)
