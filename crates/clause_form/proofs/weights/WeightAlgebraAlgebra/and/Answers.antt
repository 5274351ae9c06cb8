use Rattle.std.proofs.Common.{true, subst}
use Rattle.meaning.specs.Written.{And}
use Rattle.clause_form.specs.Weights.{IsWeight}
use Rattle.clause_form.specs.declared.weights.Weight.TheVariants.{Open}
use Rattle.clause_form.proofs.KnownLaws.{and_true_left, and_true_right}
use Rattle.clause_form.proofs.WeightLaws.{known_weight, same_weight}
use Rattle.clause_form.proofs.weights.WeightAlgebraAlgebra.and.Goals as goal

pub returns-in-Known-true-clause-ok : goal.returns-in-Known-true-clause-ok
returns-in-Known-true-clause-ok c = λ x y h k. same_weight c.args.b (And x y) y (and_true_left x y (known_weight c.args.a c.in-Known-true.field-0 true x c.in-Known-true.is c.in-Known-true.field-0-test h)) k

pub returns-in-Known-true-b-clause-ok : goal.returns-in-Known-true-b-clause-ok
returns-in-Known-true-b-clause-ok c = λ x y h k. same_weight (Open c.in-Open.p c.in-Open.m) (And x y) x (and_true_right x y (known_weight c.args.b c.in-Known-true-b.field-0 true y c.in-Known-true-b.is c.in-Known-true-b.field-0-test k)) (subst (λ u. IsWeight u x) c.in-Open.is h)
