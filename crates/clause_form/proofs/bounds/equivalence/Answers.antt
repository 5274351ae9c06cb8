use Rattle.std.proofs.Common.{subst}
use Rattle.clause_form.specs.Bounds.{IsBound}
use Rattle.clause_form.proofs.BoundLaws.{iff_bound, iff_known_left, iff_known_right}
use Rattle.clause_form.proofs.bounds.equivalence.Goals as goal

pub returns-in-Known-default : goal.returns-in-Known-default
returns-in-Known-default c = λ x y h k.
    iff_known_left c.unsigned.result x y (subst (λ b. IsBound b x) c.in-Known-default.is-0 h) (c.unsigned.ensures.same y k, c.unsigned.ensures.turned y k)

pub returns-in_default-Known : goal.returns-in_default-Known
returns-in_default-Known c = λ x y h k.
    let u = c.unsigned-in_default-Known in
    iff_known_right u.result x y (u.ensures.same x h, u.ensures.turned x h) (subst (λ b. IsBound b y) c.in_default-Known.is-1 k)

pub returns-in-Open-Open : goal.returns-in-Open-Open
returns-in-Open-Open c = λ x y h k.
    let o = c.in-Open-Open in
    iff_bound o.p o.m o.q o.n c.multiplied.result c.multiplied-in-Open-Open.result c.multiplied-in-Open-Open-2.result c.multiplied-in-Open-Open-3.result
    c.added.result c.added-in-Open-Open.result x y
    c.multiplied.ensures c.multiplied-in-Open-Open.ensures c.multiplied-in-Open-Open-2.ensures c.multiplied-in-Open-Open-3.ensures
    c.added.ensures c.added-in-Open-Open.ensures (subst (λ b. IsBound b x) o.is-0 h) (subst (λ b. IsBound b y) o.is-1 k)
