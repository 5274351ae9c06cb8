use Rattle.std.proofs.Common.{refl, subst}
use Rattle.cnf.specs.Assignment.{value_of}
use Rattle.cdcl.specs.Answer.{IsSearchAnswer}
use Rattle.meaning.specs.Variables.{variable_count}
use Rattle.rule_lists.proofs.FoundLaws.{another_rule, no_other}
use Rattle.rule_lists.proofs.finding.Found.end.Goals as goal

pub returns-in-Found : goal.returns-in-Found
returns-in-Found g c =
    let s = c.args.setting.now.study.now in
    let answers = subst (IsSearchAnswer c.args.self.now.clauses.clauses (variable_count s.size) s.conflicts) c.in-Found.is c.in_ok-search.ensures in
    let other = another_rule s c.axioms-axioms.ensures.study.sentences c.args.self.now.tables.items c.args.self.now.clauses.clauses c.requires.found (value_of c.in-Found.field-0) answers.1 in
    (refl, other.0, other.1)

pub returns-in-Refuted : goal.returns-in-Refuted
returns-in-Refuted g c =
    let s = c.args.setting.now.study.now in
    let answers = subst (IsSearchAnswer c.args.self.now.clauses.clauses (variable_count s.size) s.conflicts) c.in-Refuted.is c.in_ok-search.ensures in
    no_other s c.axioms-axioms.ensures.study.sentences c.args.self.now.tables.items c.args.self.now.clauses.clauses c.requires.found c.in-Refuted.field-0 answers.0
