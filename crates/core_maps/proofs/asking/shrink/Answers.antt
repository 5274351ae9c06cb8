use Rattle.std.proofs.Common.{◌≡◌, sym, ◌∙◌, ap, subst, ℕ, ◌<◌, true, List, length, get_or, arith}
use Rattle.axiom_sets.specs.Sets.{is_set, is_within}
use Rattle.axiom_sets.proofs.SetLaws.{within_on, within_self}
use Rattle.core_reduce.specs.Reducing.{others}
use Rattle.core_reduce.proofs.CoreLaws.{core-filter}
use Rattle.core_maps.specs.Asking.{IsTried}
use Rattle.core_maps.proofs.SetLaws.{others_shorter, others_within}
use Rattle.core_maps.proofs.asking.shrink.Goals as goal

pub parts-init : goal.parts-init
parts-init g c = record { set = c.requires.set; within = within_self c.args.set; unknown = c.requires.unknown; open_part = c.requires.open }

pub try_rest-requires-clause-rest : goal.try_rest-requires-clause-rest
try_rest-requires-clause-rest g c κs within =
    let n : ℕ = length c.args.whole.now.study.now.axioms in
    let k : ℕ = get_or c.as_slice-in-parts-2.result.now c.parts.at 0 in
    let rest : c.in_ok-rest.rest ≡ others k c.parts.part = c.in_ok-rest.ensures ∙ ap (others k) c.as_slice-in-parts.ensures in
    subst (λ (ps : List ℕ). is_set n ps ≡ true) (sym rest) (core-filter _ 0 n c.parts.part c.parts.invariant.set)

pub parts-smaller : goal.parts-smaller
parts-smaller g c =
    let k : ℕ = get_or c.as_slice-in-parts-2.result.now c.parts.at 0 in
    let rest : c.in_ok-rest.rest ≡ others (get_or c.parts.part c.parts.at 0) c.parts.part =
    c.in_ok-rest.ensures ∙ ap (others k) c.as_slice-in-parts.ensures ∙ ap (λ (xs : List ℕ). others (get_or xs c.parts.at 0) c.parts.part) c.as_slice-in-parts-2.ensures in
    let long = ap length c.as_slice.ensures in
    let lt : c.parts.at < length c.parts.part = omega (arith, long, c.parts-test.true) in
    let short = others_shorter c.parts.part c.parts.at lt in
    let same = ap length rest in
    omega (arith, lt, short, same)

pub parts-preserved : goal.parts-preserved
parts-preserved g c =
    let n : ℕ = length c.args.whole.now.study.now.axioms in
    let k : ℕ = get_or c.as_slice-in-parts-2.result.now c.parts.at 0 in
    let rest : c.in_ok-rest.rest ≡ others k c.parts.part = c.in_ok-rest.ensures ∙ ap (others k) c.as_slice-in-parts.ensures in
    let tried = subst (IsTried c.args.whole.now.study.now c.args.sets.now c.in_ok-rest.rest) c.in-Spent.is c.in_ok-try_rest.ensures in
    record {
      set = subst (λ (ps : List ℕ). is_set n ps ≡ true) (sym rest) (core-filter _ 0 n c.parts.part c.parts.invariant.set);
      within = subst (λ (ps : List ℕ). is_within ps c.args.set ≡ true) (sym rest) (within_on (others k c.parts.part) c.parts.part c.args.set (others_within k c.parts.part) c.parts.invariant.within);
      unknown = tried.0;
      open_part = tried.1;
    }

pub returns-in-Core : goal.returns-in-Core
returns-in-Core g c =
    let k : ℕ = get_or c.as_slice-in-parts-2.result.now c.parts.at 0 in
    let rest : c.in_ok-rest.rest ≡ others k c.parts.part = c.in_ok-rest.ensures ∙ ap (others k) c.as_slice-in-parts.ensures in
    let within : is_within c.in_ok-rest.rest c.args.set ≡ true =
    subst (λ (ps : List ℕ). is_within ps c.args.set ≡ true) (sym rest) (within_on (others k c.parts.part) c.parts.part c.args.set (others_within k c.parts.part) c.parts.invariant.within) in
    let tried = subst (IsTried c.args.whole.now.study.now c.args.sets.now c.in_ok-rest.rest) c.in-Core.is c.in_ok-try_rest.ensures in
    (tried.0, within_on c.in-Core.core c.in_ok-rest.rest c.args.set tried.1 within, tried.2)
