use Rattle.std.proofs.Common.{◌≡◌, sym, ◌∙◌, ap, subst, ℕ, Bool, true, List, filter, length, arith}
use Rattle.std.specs.Prelude.{nat_lt}
use Rattle.std.specs.List.{list_all}
use Rattle.meaning.specs.StudyClauses.{study_clauses}
use Rattle.meaning.proofs.CoreLaws.{core_in_range}
use Rattle.clause_form.specs.Sources.{is_left}
use Rattle.clause_form.proofs.RestLaws.{rest_is_ground}
use Rattle.search_logs.specs.Spent.{has_place, all_places}
use Rattle.core_reduce.specs.Kept.{keeps}
use Rattle.core_maps.proofs.SetLaws.{filter_set}
use Rattle.core_maps.proofs.parts.clauses_of.Goals as goal

pub all_but-requires : goal.all_but-requires
all_but-requires c =
    let n = c.len.ensures ∙ ap length c.axioms.ensures.axioms in
    subst (λ (ps : List ℕ). list_all (λ k. nat_lt k c.len.result) ps ≡ true) (sym c.as_slice.ensures)
    (subst (λ (m : ℕ). list_all (λ k. nat_lt k m) c.args.set.now ≡ true) (sym n) (core_in_range 0 (length c.args.study.now.axioms) c.args.set.now c.requires.set))

pub returns : goal.returns
returns c =
    let s = c.args.study.now in
    let gone : List Bool = c.in_ok-gone.gone.items in
    let n = c.len.ensures ∙ ap length c.axioms.ensures.axioms in
    c.in_ok-clauses.ensures
    ∙ ap (λ (b : List Bool). filter (is_left (keeps b)) c.args.ground.now) c.as_slice-2.ensures.value
    ∙ ap (filter (is_left (keeps gone))) c.requires.clauses
    ∙ rest_is_ground s.size s.axioms (keeps gone) (all_places s)
    ∙ ap (study_clauses s.size s.axioms) (filter_set (keeps gone) (length s.axioms) c.args.set.now c.requires.set
    (λ a lt. c.in_ok-gone.ensures.kept a (omega (arith, lt, n)) ∙ ap (λ (ps : List ℕ). has_place ps a) c.as_slice.ensures))
