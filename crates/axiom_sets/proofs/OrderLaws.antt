-- The order in which sets are told: by the number of their axioms, and then by their places.
use Rattle.std.proofs.Common.{◌≡◌, refl, sym, ◌∙◌, ap, subst, ℕ, Bool, true, false, not, ◌&&◌, cond, List, [], ◌∷◌, ◌++◌, filter, length, inl, inr, arith, true≢false, eqb-true, eq-eqb, ltb-true, lt-ltb}
use Rattle.std.specs.Prelude.{◌==◌, nat_lt}
use Rattle.std.specs.List.{list_all}
use Rattle.std.proofs.lemmas.Bool.{and_parts, and_from, or_cases, or_left, or_right, or_parts, both_ways, cases_order, not-true}
use Rattle.std.proofs.lemmas.List.Folds.{list_all-append}
use Rattle.lists.proofs.TestLaws.{all_kept, all_weaker}
use Rattle.lists.proofs.OrderLaws.{IsLexicographic, lexicographic_on}
use Rattle.meaning.proofs.TestLaws.{rest_false}
use Rattle.axiom_sets.specs.Sets.{is_within, is_left_of, is_before, is_rising}
use Rattle.axiom_sets.proofs.SetLaws.{within_self}

left : IsLexicographic is_left_of
left = record { none = refl; more = λ y b. refl; fewer = λ x a. refl; each = λ x y a b. refl }

left_on : (a b c : List ℕ) → is_left_of a b ≡ true → is_left_of b c ≡ true → is_left_of a c ≡ true
left_on a b c h k = lexicographic_on is_left_of left a b c h k

-- what comes before a set comes before all that this one comes before
before_on : (a b c : List ℕ) → is_before a b ≡ true → is_before b c ≡ true → is_before a c ≡ true
before_on a b c h k = elim (or_cases (nat_lt (length a) (length b)) (length a == length b && is_left_of a b) h) [
  | inl less ↦ elim (or_cases (nat_lt (length b) (length c)) (length b == length c && is_left_of b c) k) [
    | inl more ↦ or_left _ _ (let p = ltb-true _ _ less in let q = ltb-true _ _ more in lt-ltb (length a) (length c) (omega (arith, p, q)))
    | inr same ↦ or_left _ _ (subst (λ (n : ℕ). nat_lt (length a) n ≡ true) (eqb-true _ _ (and_parts _ _ same).0) less)
  ]
  | inr same ↦ elim (or_cases (nat_lt (length b) (length c)) (length b == length c && is_left_of b c) k) [
    | inl more ↦ or_left _ _ (subst (λ (n : ℕ). nat_lt n (length c) ≡ true) (sym (eqb-true _ _ (and_parts _ _ same).0)) more)
    | inr also ↦ or_right (nat_lt (length a) (length c)) _ (and_from (length a == length c) (is_left_of a c)
        (subst (λ (n : ℕ). (n == length c) ≡ true) (sym (eqb-true _ _ (and_parts _ _ same).0)) (and_parts _ _ also).0)
        (left_on a b c (and_parts _ _ same).1 (and_parts _ _ also).1))
  ]
]

-- of two lists of which neither comes before the other each is the other
same_from_left : (a b : List ℕ) → is_left_of a b ≡ false → is_left_of b a ≡ false → a ≡ b
same_from_left [] [] h k = refl
same_from_left [] (y ∷ b) h k = absurd (true≢false h)
same_from_left (x ∷ a) [] h k = absurd (true≢false k)
same_from_left (x ∷ a) (y ∷ b) h k =
    let p = or_parts (nat_lt x y) (x == y && is_left_of a b) h in
    let q = or_parts (nat_lt y x) (y == x && is_left_of b a) k in
    elim (cases_order x y) [
      | inl same ↦ subst (λ (n : ℕ). (x ∷ a) ≡ (n ∷ b)) same (ap (λ (l : List ℕ). x ∷ l) (same_from_left a b (rest_false _ _ (eq-eqb x y same) p.1) (rest_false _ _ (eq-eqb y x (sym same)) q.1)))
      | inr other ↦ elim other [
        | inl less ↦ absurd (both_ways (nat_lt x y) p.0 (lt-ltb x y less))
        | inr more ↦ absurd (both_ways (nat_lt y x) q.0 (lt-ltb y x more))
      ]
    ]

-- of two sets that do not lie within each other one comes before the other
pub one_before : (a b : List ℕ) → (is_within b a && is_within a b) ≡ false → is_before b a ≡ false → is_before a b ≡ true
one_before a b other h = cases (is_before a b) refl
  where
    p : (nat_lt (length b) (length a) ≡ false) × ((length b == length a && is_left_of b a) ≡ false)
    p = or_parts _ _ h

    same : is_before a b ≡ false → a ≡ b
    same k =
        let q = or_parts (nat_lt (length a) (length b)) (length a == length b && is_left_of a b) k in
        elim (cases_order (length a) (length b)) [
          | inl e ↦ same_from_left a b (rest_false _ _ (eq-eqb (length a) (length b) e) q.1) (rest_false _ _ (eq-eqb (length b) (length a) (sym e)) p.1)
          | inr far ↦ elim far [
            | inl less ↦ absurd (both_ways (nat_lt (length a) (length b)) q.0 (lt-ltb _ _ less))
            | inr more ↦ absurd (both_ways (nat_lt (length b) (length a)) p.0 (lt-ltb _ _ more))
          ]
        ]

    cases : (e : Bool) → is_before a b ≡ e → e ≡ true
    cases true e = refl
    cases false e = absurd (both_ways (is_within b a && is_within a b) other (subst (λ (l : List ℕ). (is_within l a && is_within a l) ≡ true) (same e) (and_from _ _ (within_self a) (within_self a))))

all_after : (x b : List ℕ) (sets : List (List ℕ)) → is_before x b ≡ true → list_all (is_before b) sets ≡ true → list_all (is_before x) sets ≡ true
all_after x b sets h all = all_weaker (is_before b) (is_before x) (λ t. before_on x b t h) sets all

pub rising_kept : (keep : List ℕ → Bool) (sets : List (List ℕ)) → is_rising sets ≡ true → is_rising (filter keep sets) ≡ true
rising_kept keep [] h = refl
rising_kept keep (x ∷ sets) h = let e = and_parts (list_all (is_before x) sets) (is_rising sets) h in cases (keep x) (all_kept (is_before x) keep sets e.0) (rising_kept keep sets e.1)
  where
    cases : (b : Bool) → list_all (is_before x) (filter keep sets) ≡ true → is_rising (filter keep sets) ≡ true → is_rising (cond b (x ∷ filter keep sets) (filter keep sets)) ≡ true
    cases true here ih = and_from _ _ here ih
    cases false here ih = ih

-- two sets do not lie within each other
abbrev pub other_than : List ℕ → List ℕ → Bool
other_than set s = not (is_within s set && is_within set s)

rising_rest : (set : List ℕ) (after : List (List ℕ)) → is_rising after ≡ true → list_all (other_than set) after ≡ true → (first : (t : List ℕ) (rest : List (List ℕ)) → after ≡ t ∷ rest → is_before t set ≡ false)
    → is_rising (set ∷ after) ≡ true
rising_rest set [] rising fresh first = refl
rising_rest set (t ∷ rest) rising fresh first =
    let p = and_parts (list_all (is_before t) rest) (is_rising rest) rising in
    let other = and_parts (other_than set t) (list_all (other_than set) rest) fresh in
    let here : is_before set t ≡ true = one_before set t (not-true _ other.0) (first t rest refl) in
    and_from (list_all (is_before set) (t ∷ rest)) (is_rising (t ∷ rest))
    (and_from (is_before set t) (list_all (is_before set) rest) here (all_after set t rest here p.0)) rising

-- a set that is put after those that come before it, and before one that does not, stands in order
pub put_in_order : (set : List ℕ) (before after : List (List ℕ)) → is_rising (before ++ after) ≡ true → list_all (other_than set) (before ++ after) ≡ true
    → list_all (λ t. is_before t set) before ≡ true → ((t : List ℕ) (rest : List (List ℕ)) → after ≡ t ∷ rest → is_before t set ≡ false)
    → is_rising (before ++ set ∷ after) ≡ true
put_in_order set [] after rising fresh front first = rising_rest set after rising fresh first
put_in_order set (b ∷ before) after rising fresh front first =
    let p = and_parts (list_all (is_before b) (before ++ after)) (is_rising (before ++ after)) rising in
    let q = and_parts (is_before b set) (list_all (λ t. is_before t set) before) front in
    let parts = and_parts (list_all (is_before b) before) (list_all (is_before b) after) (sym (list_all-append (is_before b) before after) ∙ p.0) in
    and_from (list_all (is_before b) (before ++ set ∷ after)) (is_rising (before ++ set ∷ after))
    (list_all-append (is_before b) before (set ∷ after) ∙ and_from (list_all (is_before b) before) (list_all (is_before b) (set ∷ after)) parts.0 (and_from (is_before b set) (list_all (is_before b) after) q.0 parts.1))
    (put_in_order set before after p.1 (and_parts (other_than set b) (list_all (other_than set) (before ++ after)) fresh).1 q.1 first)
