use Rattle.std.proofs.Common.{◌≡◌, ◌∙◌, ℕ, List, true, ap, sym, subst, arith}
use Rattle.cnf.specs.Sat.{Clause}
use Rattle.cnf.specs.Trimmed.{is_trimmed}
use Rattle.cnf.specs.Fresh.{AreOver, is_over}
use Rattle.meaning.specs.StudyClauses.{study_clauses}
use Rattle.meaning.specs.Variables.{variable_count}
use Rattle.clause_form.specs.Sources.{clauses_in}
use Rattle.search_tests.proofs.retell_tests.told.Goals as goal

-- no variable that the lines have not is in the trimmed ones
pub retell-requires-after_bounds : goal.retell-requires-after_bounds
retell-requires-after_bounds g c = λ κs out.
    let v : ℕ = variable_count c.args.study.now.size in
    let same : c.variables-count.result ≡ v = c.variables-count.ensures.value ∙ sym (ap variable_count c.requires.size) in
    let fewer = c.in_ok-proof.ensures.no_more in
    let few = c.in_ok-lines.ensures.few in
    let made = c.in_ok-made.ensures ∙ ap (λ ps. study_clauses c.args.study.now.size c.args.study.now.axioms ps) (sym c.in_ok-core.ensures) in
    record {
      clauses = made;
      trimmed = subst (λ (cs : List Clause). is_trimmed cs c.in_ok-proof.proof ≡ true) (sym (sym (ap clauses_in made) ∙ c.clauses-2.ensures.clauses)) c.in_ok-proof.ensures.form;
      over = c.in_ok-proof.ensures.no_new (is_over v) (subst (λ (n : ℕ). AreOver n c.in_ok-lines.lines) same c.in_ok-lines.ensures.over);
      few = omega (arith, few, fewer);
    }

pub retell_simply-requires-after_bounds : goal.retell_simply-requires-after_bounds
retell_simply-requires-after_bounds g c = λ κs out.
    let v : ℕ = variable_count c.args.study.now.size in
    let same : c.variables-count.result ≡ v = c.variables-count.ensures.value ∙ sym (ap variable_count c.requires.size) in
    let fewer = c.in_ok-proof.ensures.no_more in
    let few = c.in_ok-lines.ensures.few in
    let made = c.in_ok-made.ensures ∙ ap (λ ps. study_clauses c.args.study.now.size c.args.study.now.axioms ps) (sym c.in_ok-core.ensures) in
    record {
      clauses = made;
      trimmed = subst (λ (cs : List Clause). is_trimmed cs c.in_ok-proof.proof ≡ true) (sym (sym (ap clauses_in made) ∙ c.clauses-2.ensures.clauses)) c.in_ok-proof.ensures.form;
      over = c.in_ok-proof.ensures.no_new (is_over v) (subst (λ (n : ℕ). AreOver n c.in_ok-lines.lines) same c.in_ok-lines.ensures.over);
      few = omega (arith, few, fewer);
    }
