use Rattle.std.proofs.Common.{◌≡◌, sym, ◌∙◌, ap, subst, ℕ, Bool, true, List, filter, length, arith}
use Rattle.std.specs.List.{list_all}
use Rattle.cnf.specs.Assignment.{value_of}
use Rattle.cnf.specs.Fresh.{is_over}
use Rattle.meaning.specs.StudyClauses.{Sourced}
use Rattle.meaning.specs.Variables.{variable_count}
use Rattle.clause_form.specs.Sources.{clauses_in}
use Rattle.clause_form.proofs.OverLaws.{clauses_over}
use Rattle.search_logs.specs.Spent.{all_places}
use Rattle.core_reduce.specs.Kept.{keeps}
use Rattle.core_maps.specs.Asking.{is_whole_true, IsWider}
use Rattle.core_maps.proofs.PassLaws.{passed_is_wider}
use Rattle.core_maps.proofs.passing.all_passed.Goals as goal

pub failing-requires : goal.failing-requires
failing-requires c =
    let s = c.args.study.now in
    subst (λ (n : ℕ). list_all (is_over n) (clauses_in c.args.ground.now) ≡ true) (sym c.requires.length)
    (subst (λ (ss : List Sourced). list_all (is_over (variable_count s.size)) (clauses_in ss) ≡ true) (sym c.requires.clauses)
    (clauses_over s.size s.axioms c.axioms.ensures.study.sentences (all_places s)))

pub returns : goal.returns
returns c =
    let s = c.args.study.now in
    let v : ℕ → Bool = value_of c.args.bits.now in
    let gone : List Bool = c.in_ok-gone.gone.items in
    let n = c.len.ensures ∙ ap length c.axioms.ensures.axioms in
    let passed : c.in_ok-passed.passed ≡ filter (keeps gone) (all_places s) =
    c.in_ok-passed.ensures ∙ ap (λ (b : List Bool). filter (keeps b) c.as_slice.result.now) c.as_slice-2.ensures.value ∙ ap (filter (keeps gone)) (c.as_slice.ensures ∙ c.in_ok-all.ensures) in
    subst (IsWider s c.args.set.now) (sym passed)
    (passed_is_wider s c.axioms.ensures.study.sentences c.args.set.now c.requires.set v c.requires.satisfied (keeps gone)
    (λ a lt. c.in_ok-gone.ensures.kept a (omega (arith, lt, n)) ∙ ap (λ (ss : List Sourced). is_whole_true v ss a) c.requires.clauses))
