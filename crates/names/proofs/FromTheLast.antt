-- An index that is filled from the last name to the first.
use Rattle.std.proofs.Common.{◌≡◌, ◌<◌, ◌≤◌, ◌-◌, ◌+◌, map, ℕ, get_or, drop, List, [], ◌∷◌, length, sym, ap, ◌∙◌, subst, arith}
use Rattle.std.proofs.lemmas.List.{drop_more, drop_all}
use Rattle.names.specs.Names.{FindsFirst}
use Rattle.names.specs.declared.index.NameIndex.{NameIndex}

module _ {X : Type 0} (name_of : X → List ℕ) where
  -- an index of the names from a place on, with one more name before them
  pub one_more_name : (before after : NameIndex) (xs : List X) (place : ℕ) (x : X) (name : List ℕ) → 0 < place → place ≤ length xs → x ≡ get_or xs (place - 1) x → name ≡ name_of x
      → ((names : List (List ℕ)) → FindsFirst before (place - 1 + 1) names → FindsFirst after (place - 1) (name ∷ names))
      → FindsFirst before place (map name_of (drop place xs)) → FindsFirst after (place - 1) (map name_of (drop (place - 1) xs))
  one_more_name before after xs place x name some within is same put finds =
      let up : place ≡ place - 1 + 1 = omega (arith, some) in
      let least : place - 1 < length xs = omega (arith, some, within) in
      let rest : List (List ℕ) = map name_of (drop (place - 1 + 1) xs) in
      let names : map name_of (drop (place - 1) xs) ≡ name ∷ rest = ap (map name_of) (drop_more xs (place - 1) x least) ∙ ap (λ (y : X). name_of y ∷ rest) (sym is) ∙ ap (λ (n : List ℕ). n ∷ rest) (sym same) in
      subst (FindsFirst after (place - 1)) (sym names) (put _ (subst (λ n. FindsFirst before n (map name_of (drop n xs))) up finds))

  -- an index without names
  pub no_name : (index : NameIndex) (xs : List X) → ((first : ℕ) → FindsFirst index first []) → FindsFirst index (length xs) (map name_of (drop (length xs) xs))
  no_name index xs none = subst (λ ys. FindsFirst index (length xs) (map name_of ys)) (sym (drop_all (length xs) xs (omega arith))) (none (length xs))
