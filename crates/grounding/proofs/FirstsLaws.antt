-- Keeping one clause after the other gives the first of equal ones.
use mathlib.Core.Bool.{or_comm, or-false}
use Rattle.std.proofs.Common.{◌≡◌, ◌==◌, ◌&&◌, ◌||◌, ◌+◌, ◌*◌, ℕ, Bool, true, false, List, [], ◌∷◌, ◌++◌, map, fold, refl, sym, ap, ap₂, ◌∙◌, if◌then◌else◌, arith, append-nil, append_assoc}
use Rattle.std.proofs.lemmas.List.{map-append}
use Rattle.std.proofs.lemmas.List.Folds.{list_any-append}
use Rattle.std.specs.Bool.{beq}
use Rattle.std.specs.Cmp.Lexicographic.{pointwise}
use Rattle.cnf.specs.Signed.{Signed, literal_code}
use Rattle.cnf.specs.Sat.{Clause, same_lit}
use Rattle.meaning.specs.StudyClauses.{Sourced, firsts}
use Rattle.grounding.specs.Distinct.{is_seen, kept_with, same_clause}

-- two lists have the same clauses
abbrev pub HaveSame : List Clause → List Clause → Type 0
HaveSame xs ys = (c : Clause) → is_seen xs c ≡ is_seen ys c

-- whatever the order in which what was seen is kept
pub kept_are_firsts : (kept : List Sourced) (seen : List Clause) (xs : List Sourced) → HaveSame (map (λ k. k.clause) kept) seen → fold kept_with kept xs ≡ kept ++ firsts seen xs
kept_are_firsts kept seen [] h = sym (append-nil kept)
kept_are_firsts kept seen (x ∷ xs) h = by (is_seen (map (λ k. k.clause) kept) x.clause) (is_seen seen x.clause) (h x.clause) (λ ks ss e. kept_are_firsts ks ss xs e)
  where
    by : (b c : Bool) → b ≡ c → ((ks : List Sourced) (ss : List Clause) → HaveSame (map (λ k. k.clause) ks) ss → fold kept_with ks xs ≡ ks ++ firsts ss xs)
        → fold kept_with (if b then kept else kept ++ x ∷ []) xs ≡ kept ++ (if c then firsts seen xs else x ∷ firsts (x.clause ∷ seen) xs)
    by true true e rest = rest kept seen h
    by true false e rest = absurd (let k : ⊥ = cc in k)
    by false true e rest = absurd (let k : ⊥ = cc in k)
    by false false e rest =
        rest (kept ++ x ∷ []) (x.clause ∷ seen) (λ c.
        ap (λ ks. is_seen ks c) (map-append (λ (k : Sourced). k.clause) kept (x ∷ []))
        ∙ list_any-append (same_clause c) (map (λ k. k.clause) kept) (x.clause ∷ [])
        ∙ ap₂ (λ u v. u || v) (h c) (or-false (same_clause c x.clause))
        ∙ or_comm (is_seen seen c) (same_clause c x.clause))
        ∙ append_assoc kept (x ∷ []) (firsts (x.clause ∷ seen) xs)

-- ---- keys of codes

abbrev pub same_code : Signed → Signed → Bool
same_code a b = literal_code a == literal_code b

pub same_codes : (a b : Signed) → same_code a b ≡ same_lit a b
same_codes a b = by a.variable b.variable a.positive b.positive
  where
    by : (v w : ℕ) (p q : Bool) → (2 * v + (if p then 1 else 0) == 2 * w + (if q then 1 else 0)) ≡ (v == w && beq p q)
    by v w true true = grind arith
    by v w true false = grind arith
    by v w false true = grind arith
    by v w false false = grind arith

pub pointwise_codes : (c d : Clause) → pointwise (λ (m n : ℕ). m == n) (map literal_code c) (map literal_code d) ≡ same_clause c d
pointwise_codes [] [] = refl
pointwise_codes [] (y ∷ d) = refl
pointwise_codes (x ∷ c) [] = refl
pointwise_codes (x ∷ c) (y ∷ d) = ap₂ (λ u v. u && v) (same_codes x y) (pointwise_codes c d)
