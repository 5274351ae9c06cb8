-- The places of a core.
use Rattle.std.proofs.Common.{◌≡◌, refl, ℕ, ◌+◌, ◌≤◌, true, not, ◌&&◌, List, [], ◌∷◌, arith, zero, suc, subst, ap, cond, filter, Bool, false, ◌<◌}
use Rattle.std.specs.Prelude.{nat_lt}
use Rattle.std.specs.List.{list_all}
use Rattle.std.proofs.lemmas.Bool.{and_parts, and_from, ltb-false, ltb-true, not-true, le-ltb, lt-ltb}
use Rattle.meaning.specs.Cores.{is_core_from}
use Rattle.meaning.specs.Space.{up_from}

pub core_in_range : (from n : ℕ) (core : List ℕ) → is_core_from from n core ≡ true → list_all (λ k. nat_lt k n) core ≡ true
core_in_range from n [] h = refl
core_in_range from n (k ∷ core) h =
    let a = and_parts (not (nat_lt k from) && nat_lt k n) (is_core_from (k + 1) n core) h in
    and_from _ _ (and_parts (not (nat_lt k from)) (nat_lt k n) a.0).1 (core_in_range (k + 1) n core a.1)

-- the first place of a core is not below where it begins, and is below its end
pub first_of_core : (end from c : ℕ) (core : List ℕ) → is_core_from from end (c ∷ core) ≡ true → (from ≤ c) × (c < end) × (is_core_from (c + 1) end core ≡ true)
first_of_core end from c core h =
    let p = and_parts (not (nat_lt c from) && nat_lt c end) (is_core_from (c + 1) end core) h in
    let q = and_parts (not (nat_lt c from)) (nat_lt c end) p.0 in
    (ltb-false c from (not-true _ q.0), ltb-true c end q.1, p.1)

-- a place below those of a core goes before them
pub onto_core : (end from c : ℕ) (core : List ℕ) → from ≤ c → c < end → is_core_from (c + 1) end core ≡ true → is_core_from from end (c ∷ core) ≡ true
onto_core end from c core low high rest = and_from _ _ (and_from _ _ (ap not (le-ltb c from low)) (lt-ltb c end high)) rest

-- the places of a core from here on are places of one from before
pub core_lower : (from at n : ℕ) (core : List ℕ) → from ≤ at → is_core_from at n core ≡ true → is_core_from from n core ≡ true
core_lower from at n [] le h = refl
core_lower from at n (k ∷ core) le h = let f = first_of_core n at k core h in onto_core n from k core (omega (arith, le, f.0)) f.1 f.2

-- places that pass a test are a core
pub filter_core : (t : ℕ → Bool) (n from : ℕ) → is_core_from from (from + n) (filter t (up_from from n)) ≡ true
filter_core t zero from = refl
filter_core t (suc n) from = by (t from) (filter_core t n (suc from))
  where
    over : suc from + n ≡ from + suc n
    over = omega arith

    next : suc from ≡ from + 1
    next = omega arith

    by : (b : Bool) → is_core_from (suc from) (suc from + n) (filter t (up_from (suc from) n)) ≡ true
        → is_core_from from (from + suc n) (cond b (from ∷ filter t (up_from (suc from) n)) (filter t (up_from (suc from) n))) ≡ true
    by true ih =
        let moved = subst (λ (end : ℕ). is_core_from (suc from) end (filter t (up_from (suc from) n)) ≡ true) over ih in
        let rest = subst (λ (start : ℕ). is_core_from start (from + suc n) (filter t (up_from (suc from) n)) ≡ true) next moved in
        onto_core (from + suc n) from from (filter t (up_from (suc from) n)) (omega arith) (omega arith) rest
    by false ih =
        let moved = subst (λ (end : ℕ). is_core_from (suc from) end (filter t (up_from (suc from) n)) ≡ true) over ih in
        core_lower from (suc from) (from + suc n) (filter t (up_from (suc from) n)) (omega arith) moved
