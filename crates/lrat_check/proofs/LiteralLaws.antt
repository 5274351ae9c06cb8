-- Literals of clauses, and their signs.
use Rattle.std.proofs.Common.{◌≡◌, refl, sym, ap, ap₂, ℕ, ◌≤◌, Bool, true, false, not, ◌&&◌, ◌||◌, cond, inl, inr, List, [], ◌∷◌, map, true≢false, leb-true}
use Rattle.std.specs.Prelude.{◌==◌, nat_le}
use Rattle.std.specs.Bool.{beq}
use Rattle.std.specs.List.{list_any}
use Rattle.std.proofs.lemmas.Bool.{and_parts, and_from, or_cases, or_left, or_right}
use Rattle.cnf.specs.Signed.{Signed}
use Rattle.cnf.specs.Sat.{Clause, opposite_lit, has_lit, is_true_under}
use Rattle.cnf.specs.Derived.{Effect, Satisfied, effect_of, effect_of_left, unassigned}
use Rattle.cnf.specs.Fresh.{is_over}
use Rattle.cnf.proofs.LitLaws.{same_lit-refl, member_passes}

-- ---- signs

-- a sign that differs is the other one
pub other_sign : (p s : Bool) → beq s p ≡ false → beq s (not p) ≡ true
other_sign true true h = absurd (true≢false h)
other_sign true false h = refl
other_sign false true h = refl
other_sign false false h = absurd (true≢false h)

beq-turn : (a b : Bool) → beq a (not b) ≡ beq (not a) b
beq-turn true true = refl
beq-turn true false = refl
beq-turn false true = refl
beq-turn false false = refl

-- a literal stands among the opposites where its opposite stands in the list
pub has-opposite : (ls : List Signed) (s : Signed) → has_lit (map opposite_lit ls) s ≡ has_lit ls (opposite_lit s)
has-opposite [] s = refl
has-opposite (k ∷ ls) s = ap₂ (λ a b. a || b) (ap (λ b. (s.variable == k.variable) && b) (beq-turn s.positive k.positive)) (has-opposite ls s)

-- ---- clauses

-- a test that some literal passes is passed by one that stands there
pub witness : (t : Signed → Bool) (ls : List Signed) → list_any t ls ≡ true → (k : Signed) × (has_lit ls k ≡ true) × (t k ≡ true)
witness t [] h = absurd (true≢false (sym h))
witness t (l ∷ ls) h = elim (or_cases (t l) (list_any t ls) h) [ inl e ↦ (l, or_left _ _ (same_lit-refl l), e) | inr e ↦ (let w = witness t ls e in (w.0, or_right _ _ w.1, w.2)) ]

-- the variable of a literal of a clause is in range
pub in_range : (n : ℕ) (clause : Clause) (k : Signed) → is_over n clause ≡ true → has_lit clause k ≡ true → is_over n (k ∷ []) ≡ true
in_range n clause k over m = and_from _ _ (member_passes (λ l. nat_le 1 l.variable && nat_le l.variable n) clause k over m) refl

pub in_bounds : (n : ℕ) (l : Signed) → is_over n (l ∷ []) ≡ true → (1 ≤ l.variable) × (l.variable ≤ n)
in_bounds n l h = let e = and_parts (nat_le 1 l.variable) (nat_le l.variable n) (and_parts (nat_le 1 l.variable && nat_le l.variable n) true h).0 in (leb-true _ _ e.0, leb-true _ _ e.1)

-- a clause of another effect than that of a true one has no known literal
pub not_true_from : (known : List Signed) (clause : Clause) (e : Effect) → (e ≡ Satisfied → ⊥) → effect_of known clause ≡ e → is_true_under known clause ≡ false
not_true_from known clause e other h = cases (is_true_under known clause) refl h
  where
    cases : (b : Bool) → is_true_under known clause ≡ b → cond b Satisfied (effect_of_left (unassigned known clause)) ≡ e → b ≡ false
    cases true f g = absurd (other (sym g))
    cases false f g = refl
