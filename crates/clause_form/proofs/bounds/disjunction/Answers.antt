use Rattle.std.proofs.Common.{subst}
use Rattle.clause_form.specs.Bounds.{IsBound}
use Rattle.clause_form.proofs.BoundLaws.{or_known_left, or_known_right}
use Rattle.clause_form.proofs.bounds.disjunction.Goals as goal

pub returns-in-Known-default : goal.returns-in-Known-default
returns-in-Known-default c = λ x y h k. or_known_left c.args.b x y (subst (λ b. IsBound b x) c.in-Known-default.is-0 h) k

pub returns-in_default-Known : goal.returns-in_default-Known
returns-in_default-Known c = λ x y h k. or_known_right c.args.a x y h (subst (λ b. IsBound b y) c.in_default-Known.is-1 k)
