-- What holds of each item of a list holds at each place.
use Rattle.std.proofs.Common.{◌≡◌, sym, ap, ap₂, refl, ℕ, zero, suc, ◌<◌, Bool, true, ◌&&◌, inl, inr, List, [], ◌∷◌, map, take, length, arith, true≢false, eqb-true, ltb-true}
use Rattle.std.specs.Prelude.{◌==◌, nat_lt}
use Rattle.std.specs.List.{list_all, list_any}
use Rattle.std.proofs.lemmas.Bool.{and_parts, and_from, or_cases}
use Rattle.vocab.specs.declared.literals.Literal.{Literal}
use Rattle.vocab.specs.Literal.{opposite_of, has}
use Rattle.vocab.specs.Titled.{Titled}
use Rattle.meaning.specs.Stories.{are_false}
use Rattle.meaning.proofs.LiteralLaws.{opposite-opposite}
use Rattle.story.specs.Conditions.{has_places}

-- a test that all pass is passed by the first ones
pub all_first : {A : Type 0} (t : A → Bool) (xs : List A) (i : ℕ) → list_all t xs ≡ true → list_all t (take i xs) ≡ true
all_first t xs zero h = refl
all_first t [] (suc i) h = refl
all_first t (x ∷ xs) (suc i) h = let p = and_parts (t x) (list_all t xs) h in and_from _ _ p.0 (all_first t xs i p.1)

-- a place that is in the core is one of an axiom
pub core_place : (axioms : List Titled) (core : List ℕ) (k : ℕ) → list_any (λ c. c == k) core ≡ true → has_places axioms core ≡ true → k < length axioms
core_place axioms [] k h own = absurd (true≢false (sym h))
core_place axioms (c ∷ core) k h own =
    let p = and_parts (nat_lt c (length axioms)) (has_places axioms core) own in
    elim (or_cases (c == k) (list_any (λ d. d == k) core) h) [
      | inl e ↦ let same : c ≡ k = eqb-true c k e in let lt = ltb-true c (length axioms) p.0 in omega arith
      | inr e ↦ core_place axioms core k e p.1
    ]

-- the opposites of a lemma's claim are what it supposes
pub claim_false : (known ls : List Literal) → are_false known (map opposite_of ls) ≡ list_all (has known) ls
claim_false known [] = refl
claim_false known (l ∷ ls) = ap₂ (λ a b. a && b) (ap (has known) (opposite-opposite l)) (claim_false known ls)
