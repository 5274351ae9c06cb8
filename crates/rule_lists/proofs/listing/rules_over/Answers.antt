use Rattle.std.proofs.Common.{◌≡◌, ◌∙◌, subst, ℕ, ◌≤◌, List, length, arith}
use Rattle.rule_lists.specs.RuleLists.{EndsWith}
use Rattle.rule_lists.specs.Finding.{IsAfter}
use Rattle.rule_lists.proofs.FoundLaws.{makes_list}
use Rattle.rule_lists.proofs.listing.rules_over.Goals as goal

pub returns-in-Some : goal.returns-in-Some
returns-in-Some g c =
    let s = c.args.setting.now.study.now in
    let old = c.loop-count.found.tables.items in
    let after = subst (IsAfter s old c.step.new.self.tables.items c.step.new.self.clauses.clauses) c.in-Some.is c.in_ok-step.ensures in
    let few : length old ≤ c.args.most = omega (arith, c.loop-count.invariant.1, c.loop-count-test.true) in
    makes_list s c.axioms-axioms.ensures.study.sentences old c.loop-count.found.clauses.clauses c.loop-count.invariant.0 c.into_list.result c.in-Some.ending
    (c.into_list.ensures.tables ∙ after.0) c.into_list.ensures.ending c.args.most few (subst (λ (ts : List (List ℕ)). EndsWith s c.args.most ts c.in-Some.ending) after.0 (after.1 c.args.most))

pub returns : goal.returns
returns g c =
    let s = c.args.setting.now.study.now in
    let tables = c.loop-count.found.tables.items in
    let count : length tables ≡ c.args.most = omega (arith, c.loop-count.invariant.1, c.loop-count-test.false, c.loop-count.auto._count-end) in
    let few : length tables ≤ c.args.most = omega (arith, count) in
    makes_list s c.axioms-axioms.ensures.study.sentences tables c.loop-count.found.clauses.clauses c.loop-count.invariant.0 c.into_list-2.result c.in_ok-ending.ending
    c.into_list-2.ensures.tables c.into_list-2.ensures.ending c.args.most few (subst (λ (n : ℕ). EndsWith s n tables c.in_ok-ending.ending) count c.in_ok-ending.ensures)
