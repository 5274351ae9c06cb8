use Rattle.std.proofs.Common.{arith, sym, ◌∙◌}
use Rattle.clause_form.proofs.FactorLaws.{prefixed-empty}
use Rattle.clause_form.proofs.factored.Factored.written.Goals as goal

pub returns-then-len-eq0 : goal.returns-then-len-eq0
returns-then-len-eq0 c = sym (prefixed-empty c.self.inside.prefix.items c.self.inside.rests (omega arith)) ∙ c.self.view_is
