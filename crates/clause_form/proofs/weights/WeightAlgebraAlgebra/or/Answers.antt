use Rattle.std.proofs.Common.{false, subst}
use Rattle.meaning.specs.Written.{Or}
use Rattle.clause_form.specs.Weights.{IsWeight}
use Rattle.clause_form.specs.declared.weights.Weight.TheVariants.{Open}
use Rattle.clause_form.proofs.KnownLaws.{or_false_left, or_false_right}
use Rattle.clause_form.proofs.WeightLaws.{known_weight, same_weight}
use Rattle.clause_form.proofs.weights.WeightAlgebraAlgebra.or.Goals as goal

pub returns-in-Known-false-clause-ok : goal.returns-in-Known-false-clause-ok
returns-in-Known-false-clause-ok c = λ x y h k. same_weight c.args.b (Or x y) y (or_false_left x y (known_weight c.args.a c.in-Known-false.field-0 false x c.in-Known-false.is c.in-Known-false.field-0-test h)) k

pub returns-in-Known-false-b-clause-ok : goal.returns-in-Known-false-b-clause-ok
returns-in-Known-false-b-clause-ok c = λ x y h k. same_weight (Open c.in-Open.p c.in-Open.m) (Or x y) x (or_false_right x y (known_weight c.args.b c.in-Known-false-b.field-0 false y c.in-Known-false-b.is c.in-Known-false-b.field-0-test k)) (subst (λ u. IsWeight u x) c.in-Open.is h)
