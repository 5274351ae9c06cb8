use Rattle.std.proofs.Common.{◌≡◌, ◌<◌, ℕ, Bool, true, List, length, filter, ap, ◌∙◌, sym, subst, arith, ltb-true}
use Rattle.std.specs.Prelude.{nat_lt}
use Rattle.std.specs.List.{list_all, AllByRecursion}
use Rattle.lists.proofs.TestLaws.{all_kept}
use Rattle.cnf.specs.Fresh.{is_over}
use Rattle.meaning.specs.Cores.{is_core_from}
use Rattle.meaning.specs.StudyClauses.{Sourced, study_clauses}
use Rattle.meaning.specs.Variables.{variable_count}
use Rattle.meaning.proofs.CoreLaws.{core_in_range}
use Rattle.clause_form.specs.Sources.{is_left}
use Rattle.clause_form.proofs.RestLaws.{rest_is_ground}
use Rattle.search_logs.specs.Spent.{has_place, IsSpentLog}
use Rattle.search_logs.proofs.PlaceLaws.{each_member, member_passes}
use Rattle.clause_form.specs.Cited.{is_axiom_cited}
use Rattle.core_reduce.specs.Kept.{keeps}
use Rattle.core_reduce.specs.Reducing.{IsFrom, IsReducing}
use Rattle.core_reduce.specs.declared.reduction.Reduction.{Reduction}
use Rattle.core_reduce.proofs.CoreLaws.{core-filter, nothing_marked}
use Rattle.core_reduce.proofs.FinishLaws.{filter_member}
use Rattle.core_reduce.proofs.deciding.start.Goals as goal

pub returns-clause-reducing : goal.returns-clause-reducing
returns-clause-reducing c =
    let s = c.args.study.now in
    let focus = c.in_ok-focus.ensures in
    let keep : ℕ → Bool = keeps c.in_ok-focus.focus.gone.items in
    let core : c.in_ok-core.core ≡ filter keep c.args.chosen.now = c.in_ok-core.ensures ∙ ap (λ (b : List Bool). filter (keeps b) c.as_slice.result.now) c.as_slice-2.ensures.value ∙ ap (filter keep) c.as_slice.ensures in
    subst (IsReducing s) (sym c.into_reduction.ensures) record {
      core = subst (λ (ps : List ℕ). is_core_from 0 (length s.axioms) ps ≡ true) (sym core) (core-filter keep 0 (length s.axioms) c.args.chosen.now c.requires.chosen);
      clauses =
          focus.clauses
          ∙ ap (filter (is_left keep)) c.requires.clauses
          ∙ rest_is_ground s.size s.axioms keep c.args.chosen.now
          ∙ ap (study_clauses s.size s.axioms) (sym core);
      trimmed = focus.trimmed;
      over = focus.no_new_clause (is_over (variable_count s.size)) c.requires.over;
      few = let less = focus.no_more in omega (arith, less, c.requires.few);
      marked = nothing_marked s c.new-2.result c.in_ok-core.core c.in_ok-core.core c.new.result.items c.new.ensures.items;
      logs = subst (AllByRecursion (IsSpentLog s)) (sym c.new-2.ensures) tt;
    }

pub returns-clause-taken : goal.returns-clause-taken
returns-clause-taken c =
    let s = c.args.study.now in
    let focus = c.in_ok-focus.ensures in
    let n = c.len.ensures ∙ ap length c.axioms.ensures.axioms in
    let keep : ℕ → Bool = keeps c.in_ok-focus.focus.gone.items in
    let core : c.in_ok-core.core ≡ filter keep c.args.chosen.now = c.in_ok-core.ensures ∙ ap (λ (b : List Bool). filter (keeps b) c.as_slice.result.now) c.as_slice-2.ensures.value ∙ ap (filter keep) c.as_slice.ensures in
    let range = core_in_range 0 (length s.axioms) c.args.chosen.now c.requires.chosen in
    subst (λ (r : Reduction). IsFrom s c.args.chosen.now c.args.proof.now r.core) (sym c.into_reduction.ensures) record {
      from_chosen = subst (λ (ps : List ℕ). list_all (has_place c.args.chosen.now) ps ≡ true) (sym core) (all_kept (has_place c.args.chosen.now) keep c.args.chosen.now (each_member (has_place c.args.chosen.now) c.args.chosen.now (λ j e. e)));
      cited =
          subst (λ (ps : List ℕ). list_all (is_axiom_cited (study_clauses s.size s.axioms c.args.chosen.now) c.args.proof.now) ps ≡ true) (sym core)
          (each_member (is_axiom_cited (study_clauses s.size s.axioms c.args.chosen.now) c.args.proof.now) (filter keep c.args.chosen.now) (λ j e.
          let m = filter_member keep c.args.chosen.now j e in
          let lt : j < length s.axioms = ltb-true _ _ (member_passes (λ k. nat_lt k (length s.axioms)) c.args.chosen.now j range m.1) in
          let cited = focus.cited j (omega (arith, lt, n)) m.0 in
          subst (λ (ss : List Sourced). is_axiom_cited ss c.args.proof.now j ≡ true) c.requires.clauses cited));
    }
