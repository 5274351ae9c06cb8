use Rattle.std.proofs.Common.{◌-◌, ◌^◌, ◌<◌, ℕ, sym, subst}
use Rattle.choice_sets.proofs.ElementLemmas.{rule_in_range}
use Rattle.choice_sets.proofs.gains.outcome_at.Goals as goal

pub returns-clause-in_range : goal.returns-clause-in_range
returns-clause-in_range c =
    let size = c.args.rule.now.space.now in
    subst (λ (o : ℕ). o < 2 ^ size.alternatives - 1) (sym c.from.ensures) (rule_in_range size c.args.rule.now.gives_sets c.args.rule.now.table.now c.args.rule.now.rule c.args.profile c.get.result.now c.get.ensures)
