use Rattle.std.proofs.Common.{rules, ap, ◌∙◌}
use Rattle.clause_form.specs.Sources.{clauses_in}
use Rattle.rule_lists.proofs.FoundLaws.{found_nothing}
use Rattle.rule_lists.proofs.finding.Found.new.Goals as goal

pub returns-clause-found : goal.returns-clause-found
returns-clause-found c = search (rules, found_nothing c.args.study.now c.axioms-axioms.ensures.study.sentences c.in_ok-clauses.clauses.clauses (c.in_ok-clauses.ensures ∙ ap clauses_in c.requires))
