use Rattle.std.proofs.Common.{◌≡◌, ℕ, true, List, ap, ◌∙◌, sym, subst}
use Rattle.std.specs.List.{list_all}
use Rattle.vocab.specs.Size.{Extent}
use Rattle.cnf.specs.Sat.{Clause}
use Rattle.cnf.specs.Fresh.{is_over}
use Rattle.cnf.proofs.OverLaws.{stay_within}
use Rattle.meaning.specs.StudyClauses.{clauses_for}
use Rattle.meaning.specs.Variables.{variable_count}
use Rattle.clause_form.specs.Sources.{clauses_in}
use Rattle.clause_form.proofs.OverLaws.{clauses_over}
use Rattle.retell.proofs.telling.retell_simply.Goals as goal

pub simplify-requires-clause-range : goal.simplify-requires-clause-range
simplify-requires-clause-range g c =
    let size : Extent = c.args.setting.now.study.now.size in
    let over : list_all (is_over (variable_count size)) (clauses_for size c.args.setting.now.study.now.axioms c.args.core.now) ≡ true = clauses_over size c.args.setting.now.study.now.axioms c.axioms-axioms.ensures.study.sentences c.args.core.now in
    let same : clauses_for size c.args.setting.now.study.now.axioms c.args.core.now ≡ c.clauses.result.now.clauses = sym (ap clauses_in c.requires.clauses) ∙ c.clauses.ensures.clauses in
    let count : variable_count size ≡ c.variables.result = ap variable_count c.args.setting.now.same ∙ sym c.variables.ensures.value in
    stay_within c.variables.result c.clauses.result.now.clauses
    (subst (λ (n : ℕ). list_all (is_over n) c.clauses.result.now.clauses ≡ true) count (subst (λ (cs : List Clause). list_all (is_over (variable_count size)) cs ≡ true) same over))
