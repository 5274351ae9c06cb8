use Rattle.std.proofs.Common.{◌≡◌, sym, ◌∙◌, ap, subst, ℕ, true, List, ◌++◌, take, drop, take-append-drop}
use Rattle.std.specs.Prelude.{IfSome, IsFalse, slice_get}
use Rattle.std.specs.List.{list_all}
use Rattle.lists.proofs.PlaceLaws.{drop_first}
use Rattle.rule_lists.specs.RuleLists.{has_table, is_table_before, are_tables_rising}
use Rattle.rule_lists.proofs.OrderLaws.{put_in_order}
use Rattle.rule_lists.proofs.ordering.put.Goals as goal

pub returns-clause-rising : goal.returns-clause-rising
returns-clause-rising c =
    let old = c.args.tables.now.items in
    let table : List ℕ = c.args.table in
    let k = c.place_for-place.result in
    let parts : take k old ++ drop k old ≡ old = take-append-drop k old in
    let front : list_all (λ t. is_table_before t table) (take k old) ≡ true = rw (c.as_slice.ensures.value, c.as_slice-2.ensures) at c.place_for-place.ensures.before in
    let here : IfSome (slice_get old k) (λ t. IsFalse (is_table_before t table)) = rw (c.as_slice.ensures.value, c.as_slice-2.ensures) at c.place_for-place.ensures.here in
    subst (λ (ts : List (List ℕ)). are_tables_rising ts ≡ true) (sym c.in_ok-insert.ensures.items)
    (put_in_order table (take k old) (drop k old) (ap are_tables_rising parts ∙ c.requires.rising) (ap (λ (ts : List (List ℕ)). has_table ts table) parts ∙ c.requires.fresh) front
    (λ t rest e. subst (λ o. IfSome o (λ (x : List ℕ). IsFalse (is_table_before x table))) (drop_first old k t rest e) here))
