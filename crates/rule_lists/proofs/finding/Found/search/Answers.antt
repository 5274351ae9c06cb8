use Rattle.std.proofs.Common.{◌≡◌, ℕ, true, ap, ◌∙◌, sym, subst}
use Rattle.std.specs.List.{list_all}
use Rattle.cnf.specs.Fresh.{is_over}
use Rattle.meaning.specs.Variables.{variable_count}
use Rattle.cnf.proofs.OverLaws.{stay_within}
use Rattle.rule_lists.proofs.finding.Found.search.Goals as goal

pub solve-requires-clause-range : goal.solve-requires-clause-range
solve-requires-clause-range g c =
    let count : variable_count c.args.setting.now.study.now.size ≡ c.variables.result = ap variable_count c.args.setting.now.same ∙ sym c.variables.ensures.value in
    stay_within c.variables.result c.args.self.now.clauses.clauses (subst (λ (n : ℕ). list_all (is_over n) c.args.self.now.clauses.clauses ≡ true) count c.requires.found.over)
