use Rattle.std.proofs.Common.{◌≡◌, ◌∙◌, ◌≤◌, ℕ, List, Bool, Option, Some, None, ap, cond, length, subst, sym}
use Rattle.report.proofs.AnswerLemmas.{no_rule_told, rule_all, rule_right, rule_told}
use Rattle.report.proofs.checker.Checker.table.Goals as goal

pub returns-in-Some-clause-value : goal.returns-in-Some-clause-value
returns-in-Some-clause-value g c = λ lines h. no_rule_told c.args.self.now.subject.setting.study.now lines c.args.self.now.progress _ c.in-Some.is h

pub returns-in-Some-clause-all : goal.returns-in-Some-clause-all
returns-in-Some-clause-all g c = λ lines h none.
    let few = subst (λ (n : ℕ). n ≤ 4294967294) h.0 c.requires.room in
    let subject = c.args.self.now.subject in
    rule_all subject.setting.study.now lines subject.listed None few none (returns-in-Some-clause-value g c lines h)

pub returns-then-is_rule_end-clause-value : goal.returns-then-is_rule_end-clause-value
returns-then-is_rule_end-clause-value g c = λ lines h.
    let p = c.args.self.now.progress in
    let found : Bool → Option (List ℕ) = λ b. cond b (Some p.judging.rows) None in
    sym (ap found (sym c.is_rule_end.ensures ∙ c.if-is_rule_end.true)) ∙ rule_told c.args.self.now.subject.setting.study.now lines p c.in-None.is h

pub returns-then-is_rule_end-clause-right : goal.returns-then-is_rule_end-clause-right
returns-then-is_rule_end-clause-right g c = λ lines h.
    rule_right c.args.self.now.subject.setting.study.now lines (Some c.args.self.now.progress.judging.rows) (returns-then-is_rule_end-clause-value g c lines h)

pub returns-then-is_rule_end-clause-all : goal.returns-then-is_rule_end-clause-all
returns-then-is_rule_end-clause-all g c = λ lines h none.
    let few = subst (λ (n : ℕ). n ≤ 4294967294) h.0 c.requires.room in
    let subject = c.args.self.now.subject in
    rule_all subject.setting.study.now lines subject.listed (Some c.args.self.now.progress.judging.rows) few none (returns-then-is_rule_end-clause-value g c lines h)

pub returns-else-is_rule_end-clause-value : goal.returns-else-is_rule_end-clause-value
returns-else-is_rule_end-clause-value g c = λ lines h.
    let p = c.args.self.now.progress in
    let found : Bool → Option (List ℕ) = λ b. cond b (Some p.judging.rows) None in
    sym (ap found (sym c.is_rule_end.ensures ∙ c.if-is_rule_end.false)) ∙ rule_told c.args.self.now.subject.setting.study.now lines p c.in-None.is h

pub returns-else-is_rule_end-clause-all : goal.returns-else-is_rule_end-clause-all
returns-else-is_rule_end-clause-all g c = λ lines h none.
    let few = subst (λ (n : ℕ). n ≤ 4294967294) h.0 c.requires.room in
    let subject = c.args.self.now.subject in
    rule_all subject.setting.study.now lines subject.listed None few none (returns-else-is_rule_end-clause-value g c lines h)
