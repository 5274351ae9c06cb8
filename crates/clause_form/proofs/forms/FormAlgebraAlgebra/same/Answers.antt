use Rattle.std.proofs.Common.{true, false, subst}
use Rattle.meaning.specs.Clauses.{minus, plus}
use Rattle.meaning.specs.Written.{Iff, Neg}
use Rattle.clause_form.specs.Forms.{IsForm}
use Rattle.clause_form.specs.declared.forms.Form.TheVariants.{Open}
use Rattle.clause_form.proofs.KnownLaws.{iff_false_left, iff_false_right, iff_open, iff_true_left, iff_true_right}
use Rattle.clause_form.proofs.FormLaws.{known_form, negated_form, open_form, opened_form, same_form}
use Rattle.clause_form.proofs.SomeLaws.{some_minus, some_plus}
use Rattle.clause_form.proofs.forms.FormAlgebraAlgebra.same.Goals as goal

pub returns-in-Known-true-clause-ok : goal.returns-in-Known-true-clause-ok
returns-in-Known-true-clause-ok g c = λ x y h k.
    let size = g.K.OutcomeKind.size c.args.self.now.kind.now in
    same_form size c.args.b (Iff x y) y (iff_true_left x y (known_form size c.args.a c.in-Known-true.field-0 true x c.in-Known-true.is c.in-Known-true.field-0-test h)) k

pub returns-in-Known-false-clause-ok : goal.returns-in-Known-false-clause-ok
returns-in-Known-false-clause-ok g c = λ x y h k.
    let size = g.K.OutcomeKind.size c.args.self.now.kind.now in
    same_form size c.negated.result (Iff x y) (Neg y) (iff_false_left x y (known_form size c.args.a c.in-Known-false.field-0 false x c.in-Known-false.is c.in-Known-false.field-0-test h)) (c.negated.ensures size y k)

pub returns-in-Known-true-b-clause-ok : goal.returns-in-Known-true-b-clause-ok
returns-in-Known-true-b-clause-ok g c = λ x y h k.
    let size = g.K.OutcomeKind.size c.args.self.now.kind.now in
    same_form size (Open c.in-Open.p c.in-Open.m) (Iff x y) x (iff_true_right x y (known_form size c.args.b c.in-Known-true-b.field-0 true y c.in-Known-true-b.is c.in-Known-true-b.field-0-test k))
    (subst (λ u. IsForm size u x) c.in-Open.is h)

pub returns-in-Known-false-b-clause-ok : goal.returns-in-Known-false-b-clause-ok
returns-in-Known-false-b-clause-ok g c = λ x y h k.
    let size = g.K.OutcomeKind.size c.args.self.now.kind.now in
    let a = open_form size c.args.a c.in-Open.p c.in-Open.m x c.in-Open.is h in
    let s = iff_false_right x y (known_form size c.args.b c.in-Known-false-b.field-0 false y c.in-Known-false-b.is c.in-Known-false-b.field-0-test k) in
    same_form size (Open c.in-Open.m c.in-Open.p) (Iff x y) (Neg x) s (negated_form size c.in-Open.p c.in-Open.m x a.0 a.1 a.2)

pub returns-in_ok-falsity-in-Open-b-clause-ok : goal.returns-in_ok-falsity-in-Open-b-clause-ok
returns-in_ok-falsity-in-Open-b-clause-ok g c = λ x y h k.
    let size = g.K.OutcomeKind.size c.args.self.now.kind.now in
    let a = open_form size c.args.a c.in-Open.p c.in-Open.m x c.in-Open.is h in
    let b = open_form size c.args.b c.in-Open-b.q c.in-Open-b.n y c.in-Open-b.is k in
    opened_form size c.in_ok-truth-in-Open-b.truth c.in_ok-falsity-in-Open-b.falsity (Iff x y) _ _ (iff_open x y a.0 b.0)
    (c.in_ok-truth-in-Open-b.ensures size (minus x) (plus y) (plus x) (minus y)
    (some_minus x a.0, a.2) (some_plus y b.0, c.in_ok-q_copy-in-Open-b.ensures size (plus y) b.1)
    (some_plus x a.0, a.1) (some_minus y b.0, c.in_ok-n_copy-in-Open-b.ensures size (minus y) b.2))
    (c.in_ok-falsity-in-Open-b.ensures size (minus x) (minus y) (plus x) (plus y)
    (some_minus x a.0, a.2) (some_minus y b.0, b.2) (some_plus x a.0, a.1) (some_plus y b.0, b.1))
