-- The literals of clauses among those of hints.
use Rattle.std.proofs.Common.{subst, sym, ◌≡◌, ℕ, ◌+◌, ◌-◌, ◌<◌, arith, List, [], get_or, Some, inl, inr}
use Rattle.std.specs.Prelude.{All, slice_get}
use Rattle.std.proofs.lemmas.Bool.{cases_eq}
use Rattle.std.proofs.lemmas.List.Sorted.{Contains-permutation}
use Rattle.std.proofs.lemmas.Option.{get_or_from_slice_get}
use Rattle.cnf.specs.Sat.{Clause}
use Rattle.cnf.specs.declared.derivations.Line.{Line}
use Rattle.cnf.specs.declared.derivations.Step.{Step}
use Rattle.cnf.specs.declared.derivations.Step.TheVariants.{Add, Drop}
use Rattle.simpler_proofs.specs.Made.{IsNamed, NamesEach, HasHintsOf}

-- hints in another order name the same literals
pub named_reordered : (all : List Clause) (s t : Step) → HasHintsOf s t → NamesEach all s → NamesEach all t
named_reordered all (Add id clause hints) (Add k same order) h e =
    subst (λ (ls : Clause). All (IsNamed all order) ls) (sym h.1) (λ i d lt.
    let named = e i d lt in record { id = named.id; hint = Contains-permutation hints order named.id h.2 named.hint; literal = named.literal })
named_reordered all (Add id clause hints) (Drop ids) h e = absurd h
named_reordered all (Drop ids) t h e = subst (NamesEach all) (sym h) tt

-- the lines before a place need each literal, and so does the one at it
pub named_more : (all : List Clause) (lines : List Line) (n : ℕ) (line : Line) → slice_get lines n ≡ Some line → NamesEach all line.step →
    ((k : ℕ) (d : Line) → k < n → NamesEach all (get_or lines k d).step) → (k : ℕ) (d : Line) → k < n + 1 → NamesEach all (get_or lines k d).step
named_more all lines n line at here before k d lt = elim (cases_eq k n) [
  | inl e ↦ subst (λ (i : ℕ). NamesEach all (get_or lines i d).step) (sym e) (subst (λ (l : Line). NamesEach all l.step) (sym (get_or_from_slice_get lines n line d at)) here)
  | inr other ↦ before k d (omega (arith, lt, other))
]
