use Rattle.std.proofs.Common.{refl}
use Rattle.clause_form.proofs.BoundLaws.{multiplied_within}
use Rattle.clause_form.proofs.bounds.multiplied.Goals as goal

pub returns : goal.returns
returns c = λ xs ys h k. multiplied_within c.args.a c.args.b c.saturating_mul-left.result c.saturating_mul-right.result c.saturating_mul.result c.saturating_add.result _ xs ys refl c.saturating_mul-left.ensures c.saturating_mul-right.ensures c.saturating_mul.ensures c.saturating_add.ensures h k
