use Rattle.std.proofs.Common.{◌≡◌, sym, ◌∙◌, ap, subst, ℕ, true, List, ◌++◌, take, drop, take-append-drop}
use Rattle.std.specs.Prelude.{IfSome, IsFalse, slice_get}
use Rattle.std.specs.List.{list_all}
use Rattle.lists.proofs.PlaceLaws.{drop_first}
use Rattle.axiom_sets.specs.Sets.{is_before, is_rising}
use Rattle.axiom_sets.proofs.OrderLaws.{other_than, put_in_order}
use Rattle.axiom_sets.proofs.ordering.put.Goals as goal

pub returns-clause-rising : goal.returns-clause-rising
returns-clause-rising c =
    let old = c.args.sets.now.items in
    let set : List ℕ = c.args.set in
    let k = c.place_for-place.result in
    let parts : take k old ++ drop k old ≡ old = take-append-drop k old in
    let front : list_all (λ t. is_before t set) (take k old) ≡ true = rw (c.as_slice.ensures.value, c.as_slice-2.ensures) at c.place_for-place.ensures.before in
    let here : IfSome (slice_get old k) (λ t. IsFalse (is_before t set)) = rw (c.as_slice.ensures.value, c.as_slice-2.ensures) at c.place_for-place.ensures.here in
    subst (λ (ts : List (List ℕ)). is_rising ts ≡ true) (sym c.in_ok-insert.ensures.items)
    (put_in_order set (take k old) (drop k old) (ap is_rising parts ∙ c.requires.rising) (ap (list_all (other_than set)) parts ∙ c.requires.fresh) front
    (λ t rest e. subst (λ o. IfSome o (λ (x : List ℕ). IsFalse (is_before x set))) (drop_first old k t rest e) here))
