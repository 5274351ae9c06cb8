use Rattle.std.proofs.Common.{◌≡◌, ℕ, true, List, [], ◌∷◌, ◌++◌, length, ap, ◌∙◌, sym, subst}
use Rattle.std.specs.Prelude.{nat_lt, Any}
use Rattle.std.specs.List.{list_all, AllByRecursion}
use Rattle.std.proofs.lemmas.List.Quantifiers.{Any-push}
use Rattle.cdcl.specs.Answer.{IsSearchAnswer}
use Rattle.meaning.specs.StudyClauses.{clauses_for}
use Rattle.meaning.specs.Variables.{variable_count}
use Rattle.meaning.specs.Cores.{is_core_from}
use Rattle.meaning.specs.Space.{below}
use Rattle.search_logs.specs.declared.logs.SearchLog.{SearchLog}
use Rattle.cnf.specs.Fresh.{is_over}
use Rattle.cnf.specs.Sat.{Clause}
use Rattle.cnf.specs.Trimmed.{is_trimmed}
use Rattle.meaning.proofs.CoreLaws.{core_in_range}
use Rattle.clause_form.specs.Sources.{clauses_in}
use Rattle.search_logs.specs.Spent.{all_places, IsSpentLog, IsOfAll}
use Rattle.search_logs.proofs.PlaceLaws.{core_below}
use Rattle.core_reduce.proofs.proving.prove.Goals as goal

pub rule_of-requires-clause-chosen : goal.rule_of-requires-clause-chosen
rule_of-requires-clause-chosen g c = λ κs out.
    let n : ℕ = length c.args.study.now.axioms in
    let all : c.in_ok-all.all ≡ below n = c.in_ok-all.ensures in
    subst (λ (ps : List ℕ). list_all (λ k. nat_lt k n) ps ≡ true) (sym all) (core_in_range 0 n (below n) (core_below n))

pub returns-in_ok-push-in-Spent : goal.returns-in_ok-push-in-Spent
returns-in_ok-push-in-Spent g c =
    let s = c.args.study.now in
    let n : ℕ = length s.axioms in
    let all : c.in_ok-all.all ≡ below n = c.in_ok-all.ensures in
    let log : SearchLog = record { chosen = c.in_ok-all.all; lines = c.in-Spent.lines } in
    let logs : c.push.new.self ≡ log ∷ [] = c.in_ok-push-in-Spent.ensures.ok ∙ ap (λ (ls : List SearchLog). ls ++ log ∷ []) c.new-logs.ensures in
    let answers = subst (IsSearchAnswer (clauses_for s.size s.axioms c.in_ok-all.all) (variable_count s.size) s.conflicts) c.in-Spent.is c.in_ok-bits.ensures in
    let spent : IsSpentLog s log = record { chosen = subst (λ (ps : List ℕ). is_core_from 0 n ps ≡ true) (sym all) (core_below n); spent = answers.0 } in
    record {
      shown = subst (Any (IsOfAll s)) (sym logs) (Any-push (IsOfAll s) [] log all);
      logs = subst (AllByRecursion (IsSpentLog s)) (sym logs) (spent, tt);
    }

pub returns-in_ok-refutation-in-Refuted : goal.returns-in_ok-refutation-in-Refuted
returns-in_ok-refutation-in-Refuted g c =
    let s = c.args.study.now in
    let same : clauses_for s.size s.axioms (all_places s) ≡ c.clauses.result.now.clauses = ap clauses_in (sym c.requires.clauses) ∙ c.clauses.ensures.clauses in
    let answers = subst (IsSearchAnswer (clauses_for s.size s.axioms c.in_ok-all.all) (variable_count s.size) s.conflicts) c.in-Refuted.is c.in_ok-bits.ensures in
    record {
      shown = (
        subst (λ (cs : List Clause). is_trimmed cs c.in_ok-refutation-in-Refuted.refutation ≡ true) (sym same) c.in_ok-refutation-in-Refuted.ensures.form,
        c.in_ok-refutation-in-Refuted.ensures.no_new (is_over (variable_count s.size)) answers.1,
      );
      logs = subst (AllByRecursion (IsSpentLog s)) (sym c.new-in-Refuted.ensures) tt;
    }
