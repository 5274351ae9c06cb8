-- A clause more among those that were seen.
use mathlib.Core.Bool.{and-true, or-false}
use Rattle.std.proofs.Common.{◌≡◌, ◌==◌, ◌&&◌, ◌||◌, ℕ, suc, Bool, true, false, List, [], ◌∷◌, ◌++◌, length, map, refl, sym, ap, ap₂, ◌∙◌, if◌then◌else◌, arith, true≢false, get_or, subst}
use Rattle.std.specs.Prelude.{IsFalse}
use Rattle.std.proofs.lemmas.Bool.{and_parts}
use Rattle.std.proofs.lemmas.List.{map-append}
use Rattle.std.proofs.lemmas.List.Folds.{list_any-append}
use Rattle.std.specs.List.{list_any}
use Rattle.std.specs.Cmp.Lexicographic.{pointwise}
use Rattle.cnf.specs.Signed.{Signed, literal_code}
use Rattle.cnf.specs.Sat.{Clause, same_lit}
use Rattle.meaning.proofs.TestLaws.{list_any-map}
use Rattle.grounding.specs.Distinct.{Codes, HasSeen, codes_of, has_codes, has_pair_code, is_seen, same_clause, seen_with}
use Rattle.grounding.proofs.FirstsLaws.{pointwise_codes, same_codes}

-- ---- clauses of different lengths

same_long : (c d : Clause) → same_clause c d ≡ true → length c ≡ length d
same_long [] [] e = refl
same_long [] (y ∷ d) e = absurd (true≢false (sym e))
same_long (x ∷ c) [] e = absurd (true≢false (sym e))
same_long (x ∷ c) (y ∷ d) e = ap suc (same_long c d ((and_parts (same_lit x y) (same_clause c d) e).1))

apart : (c d : Clause) → (length c ≡ length d → ⊥) → same_clause c d ≡ false
apart c d h = by (same_clause c d) refl
  where
    by : (b : Bool) → same_clause c d ≡ b → b ≡ false
    by true e = absurd (h (same_long c d e))
    by false e = refl

two_apart : (c : Clause) → IsFalse (length c == 2) → length c ≡ 2 → ⊥
two_apart c h e = let t : (length c == 2) ≡ true = grind (arith, e) in true≢false (sym t ∙ h)

pub not_two : (c : Clause) → (length c ≡ 2 → ⊥) → IsFalse (length c == 2)
not_two c h = by (length c == 2) refl
  where
    by : (b : Bool) → (length c == 2) ≡ b → b ≡ false
    by true e = absurd (h (grind (arith, e)))
    by false e = refl

-- ---- one more

seen-more : (seen : List Clause) (c d : Clause) → is_seen (seen ++ c ∷ []) d ≡ (is_seen seen d || same_clause d c)
seen-more seen c d = list_any-append (same_clause d) seen (c ∷ []) ∙ ap (λ b. is_seen seen d || b) (or-false (same_clause d c))

pair-more : (pairs : List (ℕ × ℕ)) (p q : ℕ × ℕ) → has_pair_code (pairs ++ p ∷ []) q ≡ (has_pair_code pairs q || ((q.0 == p.0) && (q.1 == p.1)))
pair-more pairs p q =
    list_any-append (λ (r : ℕ × ℕ). (q.0 == r.0) && (q.1 == r.1)) pairs (p ∷ [])
    ∙ ap (λ b. has_pair_code pairs q || b) (or-false ((q.0 == p.0) && (q.1 == p.1)))

codes-more : (others : List (List ℕ)) (c d : Clause) → has_codes (others ++ codes_of c ∷ []) (codes_of d) ≡ (has_codes others (codes_of d) || same_clause d c)
codes-more others c d =
    list_any-append (pointwise (λ (m n : ℕ). m == n) (codes_of d)) others (codes_of c ∷ [])
    ∙ ap (λ b. has_codes others (codes_of d) || b) (or-false (pointwise (λ (m n : ℕ). m == n) (codes_of d) (codes_of c)) ∙ pointwise_codes d c)

pair_codes : (a b x y : Signed) → ((literal_code x == literal_code a) && (literal_code y == literal_code b)) ≡ same_clause (x ∷ y ∷ []) (a ∷ b ∷ [])
pair_codes a b x y = ap₂ (λ u v. u && v) (same_codes x a) (same_codes y b ∙ sym (and-true (same_lit y b)))

-- a clause of two literals has those that stand at its two places
pub two_literals : (c : Clause) (a b : Signed) → length c ≡ 2 → a ≡ get_or c 0 a → b ≡ get_or c 1 b → c ≡ a ∷ b ∷ []
two_literals [] a b h e f = absurd (let z : ⊥ = omega (arith, h) in z)
two_literals (x ∷ []) a b h e f = absurd (let z : ⊥ = omega (arith, h) in z)
two_literals (x ∷ y ∷ []) a b h e f = ap₂ (λ (l m : Signed). l ∷ m ∷ []) (sym e) (sym f)
two_literals (x ∷ y ∷ z ∷ c) a b h e f = absurd (let w : ⊥ = omega (arith, h) in w)

-- with a clause of another length nothing changes
other_stays : (seen : List Clause) (c d : Clause) → (length d ≡ length c → ⊥) → is_seen seen d ≡ is_seen (seen ++ c ∷ []) d
other_stays seen c d h = sym (seen-more seen c d ∙ ap (λ b. is_seen seen d || b) (apart d c h) ∙ or-false (is_seen seen d))

module _ (seen : Codes) (before : List Clause) (is : HasSeen seen before) where
  pub seen-pair : (a b : Signed) → HasSeen ((if has_pair_code seen.0 (literal_code a, literal_code b) then seen.0 else seen.0 ++ (literal_code a, literal_code b) ∷ []), seen.1) (seen_with before (a ∷ b ∷ []))
  seen-pair a b = by (has_pair_code seen.0 (literal_code a, literal_code b)) (is_seen before (a ∷ b ∷ [])) (is.pairs a b)
    where
      by : (u v : Bool) → u ≡ v → HasSeen ((if u then seen.0 else seen.0 ++ (literal_code a, literal_code b) ∷ []), seen.1) (if v then before else before ++ (a ∷ b ∷ []) ∷ [])
      by true true e = record { pairs = is.pairs; others = is.others }
      by true false e = absurd (true≢false e)
      by false true e = absurd (true≢false (sym e))
      by false false e = record {
        pairs = λ x y. pair-more seen.0 (literal_code a, literal_code b) (literal_code x, literal_code y) ∙ ap₂ (λ u v. u || v) (is.pairs x y) (pair_codes a b x y) ∙ sym (seen-more before (a ∷ b ∷ []) (x ∷ y ∷ []));
        others = λ c h. is.others c h ∙ other_stays before (a ∷ b ∷ []) c (two_apart c h);
      }

  pub seen-other : (c : Clause) → IsFalse (length c == 2) → HasSeen (seen.0, (if has_codes seen.1 (codes_of c) then seen.1 else seen.1 ++ codes_of c ∷ [])) (seen_with before c)
  seen-other c h = by (has_codes seen.1 (codes_of c)) (is_seen before c) (is.others c h)
    where
      by : (u v : Bool) → u ≡ v → HasSeen (seen.0, (if u then seen.1 else seen.1 ++ codes_of c ∷ [])) (if v then before else before ++ c ∷ [])
      by true true e = record { pairs = is.pairs; others = is.others }
      by true false e = absurd (true≢false e)
      by false true e = absurd (true≢false (sym e))
      by false false e = record {
        pairs = λ a b. is.pairs a b ∙ other_stays before c (a ∷ b ∷ []) (λ e. two_apart c h (sym e));
        others = λ d i. codes-more seen.1 c d ∙ ap (λ b. b || same_clause d c) (is.others d i) ∙ sym (seen-more before c d);
      }

-- where the codes of a clause of two literals were added
pub with-pair : (seen : Codes) (before : List Clause) → HasSeen seen before → (a b : Signed) (m n : ℕ) → m ≡ literal_code a → n ≡ literal_code b → (clause : Clause) → clause ≡ a ∷ b ∷ [] → (pairs : List (ℕ × ℕ))
    → pairs ≡ (if has_pair_code seen.0 (m, n) then seen.0 else seen.0 ++ (m, n) ∷ []) → HasSeen (pairs, seen.1) (seen_with before clause)
with-pair seen before is a b m n e f clause c pairs p =
    let made : pairs ≡ (if has_pair_code seen.0 (literal_code a, literal_code b) then seen.0 else seen.0 ++ (literal_code a, literal_code b) ∷ []) =
    p ∙ ap₂ (λ x y. if has_pair_code seen.0 (x, y) then seen.0 else seen.0 ++ (x, y) ∷ []) e f in
    subst (λ d. HasSeen (pairs, seen.1) (seen_with before d)) (sym c)
    (subst (λ ps. HasSeen (ps, seen.1) (seen_with before (a ∷ b ∷ []))) (sym made) (seen-pair seen before is a b))

-- where the codes of another clause were added
pub with-other : (seen : Codes) (before : List Clause) → HasSeen seen before → (clause : Clause) → IsFalse (length clause == 2) → (others : List (List ℕ))
    → others ≡ (if has_codes seen.1 (codes_of clause) then seen.1 else seen.1 ++ codes_of clause ∷ []) → HasSeen (seen.0, others) (seen_with before clause)
with-other seen before is clause h others e = subst (λ (os : List (List ℕ)). HasSeen (seen.0, os) (seen_with before clause)) (sym e) (seen-other seen before is clause h)

-- ---- keys that have lists of codes

module _ {X : Type 0} (items : X → List ℕ) (key : X) (codes : List ℕ) (e : items key ≡ codes) (keys : List X) where
  pub keys-have : list_any (λ k. pointwise (λ (m n : ℕ). m == n) (items key) (items k)) keys ≡ has_codes (map items keys) codes
  keys-have =
      ap (λ c. list_any (λ k. pointwise (λ (m n : ℕ). m == n) c (items k)) keys) e
      ∙ sym (list_any-map (pointwise (λ (m n : ℕ). m == n) codes) items keys)

  pub keys-after : (new : List X) → new ≡ (if list_any (λ k. pointwise (λ (m n : ℕ). m == n) (items key) (items k)) keys then keys else keys ++ key ∷ [])
      → map items new ≡ (if has_codes (map items keys) codes then map items keys else map items keys ++ codes ∷ [])
  keys-after new h =
      ap (map items) (h ∙ ap (λ b. if b then keys else keys ++ key ∷ []) keys-have)
      ∙ by (has_codes (map items keys) codes)
    where
      by : (b : Bool) → map items (if b then keys else keys ++ key ∷ []) ≡ (if b then map items keys else map items keys ++ codes ∷ [])
      by true = refl
      by false = map-append items keys (key ∷ []) ∙ ap (λ c. map items keys ++ c ∷ []) e
