use Rattle.std.proofs.Common.{◌≤◌, ◌∙◌, sym, ap, nat_eq, ℕ}
use Rattle.std.proofs.lemmas.List.Sorted.{IsNonDecreasingBy-from_sort, list_any-IsPermutation, All-permutation}
use Rattle.grounding.specs.Rising.{includes}
use Rattle.instance_stories.proofs.codes.rising.Goals as goal

pub merged-requires-clause-falls : goal.merged-requires-clause-falls
merged-requires-clause-falls c = rw c.as_slice.ensures.value (IsNonDecreasingBy-from_sort (λ (x : ℕ). x) _ c.sort_unstable.ensures.sorted)

pub merged-requires-clause-some : goal.merged-requires-clause-some
merged-requires-clause-some c = rw c.as_slice.ensures.value (All-permutation (λ (n : ℕ). 4294967296 ≤ n) _ _ c.sort_unstable.ensures.permutation c.requires.some)

pub returns-clause-has : goal.returns-clause-has
returns-clause-has c = λ k.
    c.in_ok-instances.ensures.has k
    ∙ ap (λ xs. includes xs k) c.as_slice.ensures.value
    ∙ sym (list_any-IsPermutation (nat_eq k) _ _ c.sort_unstable.ensures.permutation)
