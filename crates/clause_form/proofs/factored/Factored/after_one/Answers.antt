use Rattle.clause_form.proofs.FactorLaws.{after-literal}
use Rattle.clause_form.proofs.factored.Factored.after_one.Goals as goal

pub returns : goal.returns
returns c = after-literal c.args.lit c.self.inside.prefix.items _ c.self.inside.rests c.args.self c.in_ok-push.ensures.items c.self.view_is
