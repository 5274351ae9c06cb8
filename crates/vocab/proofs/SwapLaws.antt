-- A well-sorted sentence that exchanges no alternatives in a profile is well sorted at every size.
use Rattle.std.proofs.Common.{◌≡◌, sym, Bool, true, false, not, ◌&&◌, ◌||◌, List, [], ◌∷◌, ◌++◌, inl, inr, true≢false}
use Rattle.std.specs.List.{list_any}
use Rattle.std.proofs.lemmas.Bool.{and_parts, and_from, or_cases, or_left, or_right, not-true, or_parts}
use Rattle.vocab.specs.declared.kinds.Sort.{Sort}
use Rattle.vocab.specs.declared.kinds.Sort.TheVariants.{Voter, Alt, Ballot, Profile}
use Rattle.vocab.specs.Size.{Extent, has_all_ballots}
use Rattle.vocab.specs.Sorted.{all_sorts, is_of_sort_if, is_atom_sorted_if, is_sorted_if, is_sorted, is_askable, swaps_in_term, swaps_in_atom, swaps_alts}
use Rattle.vocab.specs.Tree.{TermTree, AtomTree, Tree, Var, Const, With, SwapVoters, SwapAlts, Swap, Equal, Prefers, Better, Casts, Majority, WinsAt, Ranks, Leaf, Not, Both, Either, Implies, Same, All, Exists}

module _ (size : Extent) where
  term_plain : (sorts : List Sort) (s : Sort) (t : TermTree) → is_of_sort_if true size sorts s t ≡ true → swaps_in_term t ≡ false → is_of_sort_if false size sorts s t ≡ true
  term_plain sorts s (Var level) h n = h
  term_plain sorts s (Const c) h n = h
  term_plain sorts s (With p i b) h n =
      let x = and_parts _ _ h in
      let y = and_parts _ _ x.0 in
      let z = and_parts _ _ y.0 in
      let m = or_parts _ _ n in
      let k = or_parts _ _ m.0 in
      and_from _ _ (and_from _ _ (and_from _ _ z.0 (term_plain sorts Profile p z.1 k.0)) (term_plain sorts Voter i y.1 k.1)) (term_plain sorts Ballot b x.1 m.1)
  term_plain sorts s (SwapVoters p i j) h n =
      let x = and_parts _ _ h in
      let y = and_parts _ _ x.0 in
      let z = and_parts _ _ y.0 in
      let m = or_parts _ _ n in
      let k = or_parts _ _ m.0 in
      and_from _ _ (and_from _ _ (and_from _ _ z.0 (term_plain sorts Profile p z.1 k.0)) (term_plain sorts Voter i y.1 k.1)) (term_plain sorts Voter j x.1 m.1)
  term_plain sorts s (SwapAlts p x y) h n = absurd (true≢false n)
  term_plain sorts s (Swap p i j) h n =
      let x = and_parts _ _ h in
      let y = and_parts _ _ x.0 in
      let z = and_parts _ _ y.0 in
      let m = or_parts _ _ n in
      let k = or_parts _ _ m.0 in
      and_from _ _ (and_from _ _ (and_from _ _ z.0 (term_plain sorts Alt p z.1 k.0)) (term_plain sorts Alt i y.1 k.1)) (term_plain sorts Alt j x.1 m.1)

  some_sort : (sorts : List Sort) (s t : TermTree) (all : List Sort) → swaps_in_term s ≡ false → swaps_in_term t ≡ false
      → list_any (λ sort. is_of_sort_if true size sorts sort s && is_of_sort_if true size sorts sort t) all ≡ true
      → list_any (λ sort. is_of_sort_if false size sorts sort s && is_of_sort_if false size sorts sort t) all ≡ true
  some_sort sorts s t [] n m h = absurd (true≢false (sym h))
  some_sort sorts s t (sort ∷ all) n m h = elim (or_cases _ _ h) [
    | inl e ↦ let p = and_parts _ _ e in or_left _ _ (and_from _ _ (term_plain sorts sort s p.0 n) (term_plain sorts sort t p.1 m))
    | inr e ↦ or_right _ _ (some_sort sorts s t all n m e)
  ]

  atom_plain : (sorts : List Sort) (a : AtomTree) → is_atom_sorted_if true size sorts a ≡ true → swaps_in_atom a ≡ false → is_atom_sorted_if false size sorts a ≡ true
  atom_plain sorts (Equal s t) h n = let m = or_parts _ _ n in some_sort sorts s t all_sorts m.0 m.1 h
  atom_plain sorts (Prefers i x y p) h n =
      let a = and_parts _ _ h in
      let b = and_parts _ _ a.0 in
      let c = and_parts _ _ b.0 in
      let m = or_parts _ _ n in
      let k = or_parts _ _ m.0 in
      let l = or_parts _ _ k.0 in
      and_from _ _ (and_from _ _ (and_from _ _ (term_plain sorts Voter i c.0 l.0) (term_plain sorts Alt x c.1 l.1)) (term_plain sorts Alt y b.1 k.1)) (term_plain sorts Profile p a.1 m.1)
  atom_plain sorts (Better t x y) h n =
      let a = and_parts _ _ h in
      let b = and_parts _ _ a.0 in
      let m = or_parts _ _ n in
      let k = or_parts _ _ m.0 in
      and_from _ _ (and_from _ _ (term_plain sorts Ballot t b.0 k.0) (term_plain sorts Alt x b.1 k.1)) (term_plain sorts Alt y a.1 m.1)
  atom_plain sorts (Casts i t p) h n =
      let a = and_parts _ _ h in
      let b = and_parts _ _ a.0 in
      let m = or_parts _ _ n in
      let k = or_parts _ _ m.0 in
      and_from _ _ (and_from _ _ (term_plain sorts Voter i b.0 k.0) (term_plain sorts Ballot t b.1 k.1)) (term_plain sorts Profile p a.1 m.1)
  atom_plain sorts (Majority x y p) h n =
      let a = and_parts _ _ h in
      let b = and_parts _ _ a.0 in
      let m = or_parts _ _ n in
      let k = or_parts _ _ m.0 in
      and_from _ _ (and_from _ _ (term_plain sorts Alt x b.0 k.0) (term_plain sorts Alt y b.1 k.1)) (term_plain sorts Profile p a.1 m.1)
  atom_plain sorts (WinsAt x p) h n =
      let a = and_parts _ _ h in
      let b = and_parts _ _ a.0 in
      let m = or_parts _ _ n in
      and_from _ _ (and_from _ _ b.0 (term_plain sorts Alt x b.1 m.0)) (term_plain sorts Profile p a.1 m.1)
  atom_plain sorts (Ranks x y p) h n =
      let a = and_parts _ _ h in
      let b = and_parts _ _ a.0 in
      let c = and_parts _ _ b.0 in
      let m = or_parts _ _ n in
      let k = or_parts _ _ m.0 in
      and_from _ _ (and_from _ _ (and_from _ _ c.0 (term_plain sorts Alt x c.1 k.0)) (term_plain sorts Alt y b.1 k.1)) (term_plain sorts Profile p a.1 m.1)

  plain : (sorts : List Sort) (f : Tree) → is_sorted_if true size sorts f ≡ true → swaps_alts f ≡ false → is_sorted_if false size sorts f ≡ true
  plain sorts (Leaf a) h n = atom_plain sorts a h n
  plain sorts (Not f) h n = plain sorts f h n
  plain sorts (Both f g) h n = let p = and_parts _ _ h in let m = or_parts _ _ n in and_from _ _ (plain sorts f p.0 m.0) (plain sorts g p.1 m.1)
  plain sorts (Either f g) h n = let p = and_parts _ _ h in let m = or_parts _ _ n in and_from _ _ (plain sorts f p.0 m.0) (plain sorts g p.1 m.1)
  plain sorts (Implies f g) h n = let p = and_parts _ _ h in let m = or_parts _ _ n in and_from _ _ (plain sorts f p.0 m.0) (plain sorts g p.1 m.1)
  plain sorts (Same f g) h n = let p = and_parts _ _ h in let m = or_parts _ _ n in and_from _ _ (plain sorts f p.0 m.0) (plain sorts g p.1 m.1)
  plain sorts (All s f) h n = plain (sorts ++ s ∷ []) f h n
  plain sorts (Exists s f) h n = plain (sorts ++ s ∷ []) f h n

  -- what study keeps of a sentence that it takes
  pub sorted_if_askable : (sorts : List Sort) (f : Tree) → is_sorted_if true size sorts f ≡ true → is_askable size f ≡ true → is_sorted size sorts f ≡ true
  sorted_if_askable sorts f h asked = cases (has_all_ballots size) asked
    where
      cases : (may : Bool) → (may || not (swaps_alts f)) ≡ true → is_sorted_if may size sorts f ≡ true
      cases true a = h
      cases false a = plain sorts f h (not-true _ a)
