-- A set more: it is put at its place, the map stays tidy, and less is left to ask.
use Rattle.std.proofs.Common.{◌≡◌, refl, sym, ◌∙◌, ap, ap₂, subst, ℕ, List, filter}
use Rattle.std.specs.List.{list_all}
use Rattle.axiom_sets.specs.Sets.{is_rising}
use Rattle.axiom_sets.specs.Maps.{IsInserted}
use Rattle.axiom_sets.proofs.OrderLaws.{other_than, rising_kept}
use Rattle.axiom_sets.proofs.TidyLaws.{fresh_smaller, not_smaller, tidy_possible}
use Rattle.axiom_sets.proofs.CountLaws.{possible_falls}
use Rattle.axiom_sets.proofs.maps.AxiomMap.add_possible.Goals as goal

pub put-requires-clause-rising : goal.put-requires-clause-rising
put-requires-clause-rising c =
    let set : List ℕ = c.args.set in
    let kept : c.in_ok-possible.possible.items ≡ filter (not_smaller set) c.args.self.now.possible = c.in_ok-possible.ensures ∙ ap₂ (λ (ss : List (List ℕ)) (s : List ℕ). filter (not_smaller s) ss) c.as_slice.ensures c.as_slice-2.ensures in
    ap is_rising kept ∙ rising_kept (not_smaller set) c.args.self.now.possible c.requires.tidy.possible_rise

pub put-requires-clause-fresh : goal.put-requires-clause-fresh
put-requires-clause-fresh c =
    let set : List ℕ = c.args.set in
    let kept : c.in_ok-possible.possible.items ≡ filter (not_smaller set) c.args.self.now.possible = c.in_ok-possible.ensures ∙ ap₂ (λ (ss : List (List ℕ)) (s : List ℕ). filter (not_smaller s) ss) c.as_slice.ensures c.as_slice-2.ensures in
    ap (list_all (other_than set)) kept ∙ fresh_smaller set c.args.self.now.possible

pub returns-clause-added : goal.returns-clause-added
returns-clause-added c =
    let set : List ℕ = c.args.set in
    let kept : c.in_ok-possible.possible.items ≡ filter (not_smaller set) c.args.self.now.possible = c.in_ok-possible.ensures ∙ ap₂ (λ (ss : List (List ℕ)) (s : List ℕ). filter (not_smaller s) ss) c.as_slice.ensures c.as_slice-2.ensures in
    record {
      impossible = refl;
      possible = subst (λ (new : List (List ℕ)). IsInserted (filter (not_smaller set) c.args.self.now.possible) new set) (sym c.from_vec.ensures)
          (subst (λ (old : List (List ℕ)). IsInserted old c.put.new.sets.items set) kept c.in_ok-put.ensures.put);
      open_sets = c.from_vec-2.ensures ∙ c.in_ok-open_sets.ensures ∙ ap₂ (λ (ss : List (List ℕ)) (s : List ℕ). filter (not_smaller s) ss) c.as_slice-3.ensures c.as_slice-4.ensures;
    }

pub returns-clause-tidy : goal.returns-clause-tidy
returns-clause-tidy c =
    tidy_possible c.args.set c.args.self.now _ (returns-clause-added c) c.args.count c.requires.tidy c.requires.set c.requires.fresh (ap is_rising c.from_vec.ensures ∙ c.in_ok-put.ensures.rising)

pub returns-clause-fewer : goal.returns-clause-fewer
returns-clause-fewer c =
    possible_falls c.args.count c.args.self.now _ c.args.set c.requires.set c.requires.fresh (returns-clause-added c)
