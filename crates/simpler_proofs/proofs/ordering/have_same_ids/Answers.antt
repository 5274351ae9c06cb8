use Rattle.std.proofs.Common.{◌≡◌, ◌∙◌, subst, sym, List, ℕ}
use Rattle.std.specs.Prelude.{IsPermutation}
use Rattle.std.proofs.lemmas.List.Sorted.{IsPermutation-sym, IsPermutation-trans}
use Rattle.simpler_proofs.proofs.ordering.have_same_ids.Goals as goal

pub returns : goal.returns
returns c = λ same.
    let e : c.in_ok-first.first.items ≡ c.in_ok-second.second.items = sym c.as_slice.ensures.value ∙ c.are_equal.ensures same ∙ c.as_slice-2.ensures.value in
    IsPermutation-trans c.args.left.now c.in_ok-second.second.items c.args.right.now
    (subst (λ (xs : List ℕ). IsPermutation c.args.left.now xs) e c.in_ok-first.ensures)
    (IsPermutation-sym c.args.right.now c.in_ok-second.second.items c.in_ok-second.ensures)
