-- One of some: a status of some statuses, a file of some files.
use Rattle.std.proofs.Common.{◌≡◌, ◌≢◌, sym, subst, ℕ, zero, suc, Bool, true, List, [], ◌∷◌, eqb-true, eq-eqb, arith}
use Rattle.std.specs.Prelude.{◌==◌, ◌<◌, Contains, slice_index_or}
use Rattle.std.specs.List.{list_all, list_any}
use Rattle.std.proofs.lemmas.List.Elements.{All-contains, Contains-append_right}
use Rattle.std.proofs.lemmas.List.Folds.{Any-from_list_any, list_any_at}
use Rattle.std.proofs.lemmas.List.Sums.{AllPass-from_list_all}

-- ---- statuses

-- what the test finds is one of them
pub found_among : (statuses : List ℕ) (n : ℕ) → list_any (λ s. s == n) statuses ≡ true → Contains statuses n
found_among statuses n h =
    let a = Any-from_list_any (λ s. s == n) statuses h in
    subst (λ (m : ℕ). Contains statuses m) (eqb-true a.1 n a.4) (a.0, a.2, a.3)

-- and the other way round
pub among_found : (statuses : List ℕ) (n : ℕ) → Contains statuses n → list_any (λ s. s == n) statuses ≡ true
among_found statuses n h = list_any_at (λ s. s == n) statuses h.0 n h.1 (eq-eqb _ n h.2)

-- where each passes a test, one of them does
pub of_one : (test : ℕ → Bool) (statuses : List ℕ) (n : ℕ) → list_all test statuses ≡ true → Contains statuses n → test n ≡ true
of_one test statuses n each one = All-contains (λ s. test s ≡ true) statuses n (AllPass-from_list_all test statuses each) one

-- ---- names

-- nothing is one of none
pub none_among : (name : List ℕ) → ¬ Contains [] name
none_among name h = let lt = h.1 in absurd (omega arith)

-- another name is not one of one
pub not_alone : (name other : List ℕ) → name ≢ other → ¬ Contains (other ∷ []) name
not_alone name other ne h = at h.0 h.1 h.2
  where
    at : (k : ℕ) → k < 1 → slice_index_or (other ∷ []) k name ≡ name → ⊥
    at zero lt e = ne (sym e)
    at (suc k) lt e = absurd (omega arith)

-- a name that is none of some is not the first of them
pub not_first : (name other : List ℕ) (names : List (List ℕ)) → ¬ Contains (other ∷ names) name → name ≢ other
not_first name other names free same = free (0, omega arith, sym same)

-- nor one of the others
pub not_later : (name other : List ℕ) (names : List (List ℕ)) → ¬ Contains (other ∷ names) name → ¬ Contains names name
not_later name other names free later = free (Contains-append_right (other ∷ []) names name later)
