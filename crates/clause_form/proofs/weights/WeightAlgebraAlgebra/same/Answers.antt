use Rattle.std.proofs.Common.{true, false, subst}
use Rattle.meaning.specs.Written.{Iff, Neg}
use Rattle.clause_form.specs.Weights.{IsWeight}
use Rattle.clause_form.specs.declared.weights.Weight.TheVariants.{Open}
use Rattle.clause_form.proofs.KnownLaws.{iff_true_left, iff_true_right, iff_false_left, iff_false_right}
use Rattle.clause_form.proofs.WeightLaws.{known_weight, same_weight}
use Rattle.clause_form.proofs.weights.WeightAlgebraAlgebra.same.Goals as goal

pub returns-in-Known-true-clause-ok : goal.returns-in-Known-true-clause-ok
returns-in-Known-true-clause-ok c = λ x y h k. same_weight c.args.b (Iff x y) y (iff_true_left x y (known_weight c.args.a c.in-Known-true.field-0 true x c.in-Known-true.is c.in-Known-true.field-0-test h)) k

pub returns-in-Known-false-clause-ok : goal.returns-in-Known-false-clause-ok
returns-in-Known-false-clause-ok c = λ x y h k. same_weight c.negated.result (Iff x y) (Neg y) (iff_false_left x y (known_weight c.args.a c.in-Known-false.field-0 false x c.in-Known-false.is c.in-Known-false.field-0-test h)) (c.negated.ensures y k)

pub returns-in-Known-true-b-clause-ok : goal.returns-in-Known-true-b-clause-ok
returns-in-Known-true-b-clause-ok c = λ x y h k. same_weight (Open c.in-Open.p c.in-Open.m) (Iff x y) x (iff_true_right x y (known_weight c.args.b c.in-Known-true-b.field-0 true y c.in-Known-true-b.is c.in-Known-true-b.field-0-test k)) (subst (λ u. IsWeight u x) c.in-Open.is h)

pub returns-in-Known-false-b-clause-ok : goal.returns-in-Known-false-b-clause-ok
returns-in-Known-false-b-clause-ok c = λ x y h k. same_weight c.negated-in-Known-false-b.result (Iff x y) (Neg x) (iff_false_right x y (known_weight c.args.b c.in-Known-false-b.field-0 false y c.in-Known-false-b.is c.in-Known-false-b.field-0-test k)) (c.negated-in-Known-false-b.ensures x (subst (λ u. IsWeight u x) c.in-Open.is h))
