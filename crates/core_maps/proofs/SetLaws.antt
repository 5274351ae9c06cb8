-- Sets of axioms by their places.
use Rattle.std.proofs.Common.{◌≡◌, refl, sym, ◌∙◌, ap, ap₂, subst, ℕ, zero, suc, ◌+◌, ◌<◌, ◌≤◌, Bool, true, false, not, ◌&&◌, ◌||◌, ◌⊎◌, inl, inr, cond, List, [], ◌∷◌, filter, length, arith, eqb-true, eq-eqb, true≢false, lt-ltb}
use Rattle.std.specs.Prelude.{◌==◌, nat_lt, slice_index}
use Rattle.std.proofs.lemmas.Bool.{and_from, or_cases, or_left, or_right, or_from, ne_eqb, le-ltb, cases_eq}
use Rattle.lists.proofs.TestLaws.{all_kept, kept_few}
use Rattle.meaning.specs.Cores.{is_core_from}
use Rattle.meaning.specs.Space.{up_from, below}
use Rattle.search_logs.specs.Spent.{has_place}
use Rattle.axiom_sets.specs.Sets.{is_set, is_within}
use Rattle.axiom_sets.proofs.SetLaws.{within_self}
use Rattle.core_reduce.specs.Reducing.{others}
use Rattle.meaning.proofs.CoreLaws.{first_of_core}

-- ---- a set without one of its axioms

pub others_within : (k : ℕ) (set : List ℕ) → is_within (others k set) set ≡ true
others_within k set = all_kept (has_place set) (λ c. not (c == k)) set (within_self set)

-- without an axiom that it has, a set is shorter
pub others_shorter : (part : List ℕ) (at : ℕ) → at < length part → length (others (slice_index part at) part) < length part
others_shorter [] at lt = absurd (omega (arith, lt))
others_shorter (x ∷ xs) zero lt = cases (x == x) (eq-eqb x x refl)
  where
    cases : (b : Bool) → b ≡ true → length (cond (not b) (x ∷ others x xs) (others x xs)) < suc (length xs)
    cases true e = let l = kept_few (λ c. not (c == x)) xs in omega (arith, l)
    cases false e = absurd (true≢false (sym e))
others_shorter (x ∷ xs) (suc j) lt = cases (x == slice_index xs j) (others_shorter xs j (omega (arith, lt)))
  where
    cases : (b : Bool) → length (others (slice_index xs j) xs) < length xs → length (cond (not b) (x ∷ others (slice_index xs j) xs) (others (slice_index xs j) xs)) < suc (length xs)
    cases true h = omega (arith, h)
    cases false h = omega (arith, h)

-- ---- members of filters

pub in_filter : (keep : ℕ → Bool) (xs : List ℕ) (c : ℕ) → keep c ≡ true → has_place xs c ≡ true → has_place (filter keep xs) c ≡ true
in_filter keep [] c k h = h
in_filter keep (x ∷ xs) c k h = cases (keep x) refl (or_cases (x == c) (has_place xs c) h) (in_filter keep xs c k)
  where
    cases : (b : Bool) → keep x ≡ b → ((x == c) ≡ true) ⊎ (has_place xs c ≡ true) → (has_place xs c ≡ true → has_place (filter keep xs) c ≡ true) → has_place (cond b (x ∷ filter keep xs) (filter keep xs)) c ≡ true
    cases true e (inl f) ih = or_left _ _ f
    cases true e (inr f) ih = or_right _ _ (ih f)
    cases false e (inl f) ih = absurd (true≢false (sym k ∙ ap keep (sym (eqb-true x c f)) ∙ e))
    cases false e (inr f) ih = ih f

in_up : (count from c : ℕ) → from ≤ c → c < from + count → has_place (up_from from count) c ≡ true
in_up zero from c low high = absurd (omega (arith, low, high))
in_up (suc count) from c low high = elim (cases_eq from c) [
  | inl same ↦ or_left _ _ (eq-eqb from c same)
  | inr other ↦ or_right (from == c) _ (in_up count (suc from) c (omega (arith, low, other)) (omega (arith, high)))
]

pub in_below : (n c : ℕ) → c < n → has_place (below n) c ≡ true
in_below n c lt = in_up n 0 c (omega arith) (omega (arith, lt))

same_up : (p q : ℕ → Bool) (n count from : ℕ) → from + count ≡ n → ((a : ℕ) → a < n → p a ≡ q a) → filter p (up_from from count) ≡ filter q (up_from from count)
same_up p q n zero from e h = refl
same_up p q n (suc count) from e h = ap₂ (λ (b : Bool) (xs : List ℕ). cond b (from ∷ xs) xs) (h from (omega (arith, e))) (same_up p q n count (suc from) (omega (arith, e)) h)

-- tests that agree on the numbers below one keep the same of them
pub same_below : (p q : ℕ → Bool) (n : ℕ) → ((a : ℕ) → a < n → p a ≡ q a) → filter p (below n) ≡ filter q (below n)
same_below p q n h = same_up p q n n 0 (omega arith) h

-- ---- a set by its members

not_before : (from n c : ℕ) (set : List ℕ) → is_core_from from n set ≡ true → c < from → has_place set c ≡ false
not_before from n c [] h lt = refl
not_before from n c (k ∷ set) h lt =
    let r = first_of_core n from k set h in
    let low = r.0 in
    or_from (k == c) (has_place set c) (ne_eqb k c (λ e. omega (arith, low, lt, e))) (not_before (k + 1) n c set r.2 (omega (arith, low, lt)))

filter_up : (test : ℕ → Bool) (n count from : ℕ) (set : List ℕ) → from + count ≡ n → is_core_from from n set ≡ true → ((a : ℕ) → from ≤ a → a < n → test a ≡ has_place set a) → filter test (up_from from count) ≡ set
filter_up test n zero from [] e h same = refl
filter_up test n zero from (k ∷ set) e h same = let r = first_of_core n from k set h in let low = r.0 in let high = r.1 in absurd (omega (arith, e, low, high))
filter_up test n (suc count) from [] e h same =
    ap (λ (b : Bool). cond b (from ∷ filter test (up_from (suc from) count)) (filter test (up_from (suc from) count))) (same from (omega arith) (omega (arith, e)))
    ∙ filter_up test n count (suc from) [] (omega (arith, e)) refl (λ a low high. same a (omega (arith, low)) high)
filter_up test n (suc count) from (k ∷ set) e h same =
    let r = first_of_core n from k set h in
    let low_k = r.0 in
    let rest : List ℕ = filter test (up_from (suc from) count) in
    elim (cases_eq k from) [
      | inl is ↦
          ap (λ (b : Bool). cond b (from ∷ rest) rest) (same from (omega arith) (omega (arith, e)) ∙ or_left (k == from) (has_place set from) (eq-eqb k from is))
          ∙ ap₂ (λ (x : ℕ) (xs : List ℕ). x ∷ xs) (sym is) (filter_up test n count (suc from) set (omega (arith, e))
          (let up : k + 1 ≡ suc from = omega (arith, is) in subst (λ (f : ℕ). is_core_from f n set ≡ true) up r.2)
          (λ a low high. same a (omega (arith, low)) high ∙ ap (λ (b : Bool). b || has_place set a) (ne_eqb k a (λ f. omega (arith, f, is, low)))))
      | inr other ↦
          ap (λ (b : Bool). cond b (from ∷ rest) rest)
          (same from (omega arith) (omega (arith, e)) ∙ or_from (k == from) (has_place set from) (ne_eqb k from other) (not_before (k + 1) n from set r.2 (omega (arith, low_k))))
          ∙ filter_up test n count (suc from) (k ∷ set) (omega (arith, e))
          (and_from (not (nat_lt k (suc from)) && nat_lt k n) (is_core_from (k + 1) n set)
          (and_from (not (nat_lt k (suc from))) (nat_lt k n) (ap not (le-ltb k (suc from) (omega (arith, low_k, other)))) (lt-ltb k n r.1)) r.2)
          (λ a low high. same a (omega (arith, low)) high)
    ]

-- the numbers that pass a test are a set, where the test says what is one of it
pub filter_set : (test : ℕ → Bool) (n : ℕ) (set : List ℕ) → is_set n set ≡ true → ((a : ℕ) → a < n → test a ≡ has_place set a) → filter test (below n) ≡ set
filter_set test n set h same = filter_up test n n 0 set (omega arith) h (λ a low high. same a high)
