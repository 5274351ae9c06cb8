use Rattle.std.proofs.Common.{refl, subst}
use Rattle.cdcl.specs.Answer.{IsSearchAnswer}
use Rattle.meaning.specs.Variables.{variable_count}
use Rattle.rule_lists.proofs.FoundLaws.{no_other}
use Rattle.rule_lists.proofs.finding.Found.step.Goals as goal

pub returns-in-Refuted : goal.returns-in-Refuted
returns-in-Refuted g c =
    let s = c.args.setting.now.study.now in
    let answers = subst (IsSearchAnswer c.args.self.now.clauses.clauses (variable_count s.size) s.conflicts) c.in-Refuted.is c.in_ok-bits.ensures in
    (refl, λ most. no_other s c.axioms-axioms.ensures.study.sentences c.args.self.now.tables.items c.args.self.now.clauses.clauses c.requires.found c.in-Refuted.field-0 answers.0)
