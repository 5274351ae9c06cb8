use Rattle.std.proofs.Common.{refl}
use Rattle.clause_form.proofs.BoundLaws.{added_within}
use Rattle.clause_form.proofs.bounds.added.Goals as goal

pub returns : goal.returns
returns c = λ xs ys h k. added_within c.args.a c.args.b c.saturating_add.result c.saturating_add-2.result _ xs ys refl c.saturating_add.ensures c.saturating_add-2.ensures h k
