use Rattle.std.proofs.Common.{ap, reverse, ◌∙◌}
use Rattle.clause_form.specs.Factors.{prefixed}
use Rattle.clause_form.proofs.FactorLaws.{prefixed-none}
use Rattle.clause_form.proofs.factored.Factored.of.Goals as goal

pub returns : goal.returns
returns c = ap (λ p. prefixed (reverse p) c.args.clauses) c.new.ensures.items ∙ prefixed-none c.args.clauses
