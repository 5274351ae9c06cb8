-- Bounds of the counts of formulas.
use Rattle.std.proofs.Common.{◌≡◌, refl, sym, ◌∙◌, ap, subst, ℕ, suc, ◌+◌, ◌*◌, ◌≤◌, min, Bool, true, false, List, [], ◌∷◌, ◌++◌, map, length, sum_by, arith, length-append}
use Rattle.std.proofs.lemmas.List.Sums.{sum_by-append}
use Rattle.std.proofs.lemmas.Nat.{mul-le}
use Rattle.meaning.specs.Clauses.{Disjunction, for_falsity, for_truth, joined, known_truth, minus, plus}
use Rattle.meaning.specs.declared.clauses.Counts.{Counts}
use Rattle.meaning.specs.declared.three.Three.{Three}
use Rattle.meaning.specs.declared.three.Three.TheVariants.{True, False, Unknown}
use Rattle.meaning.specs.Kleene.{three_and, three_of, three_or}
use Rattle.meaning.specs.Measure.{largest, measure_of}
use Rattle.meaning.specs.Written.{And, Iff, Known as Truth, Neg, Or, Written, and_chain, or_chain}
use Rattle.meaning.proofs.MeasureLaws.{length-joined, literals-joined}
use Rattle.clause_form.specs.Bounds.{AreBounded, AreWithin, IsBound, IsWithin}
use Rattle.clause_form.specs.Wide.{capped_counts}
use Rattle.clause_form.specs.declared.bounds.Bound.{Bound}
use Rattle.clause_form.specs.declared.bounds.Bound.TheVariants.{Known, Open}
use Rattle.clause_form.proofs.CountLaws.{min-product}
use Rattle.clause_form.proofs.KnownLaws.{SameForm, and_true_left, and_true_right, or_false_left, or_false_right, iff_true_left, iff_true_right, iff_false_left, iff_false_right, minus_false, minus_true, plus_false, plus_true}
use Rattle.meaning.proofs.ThreeLaws.{three_and-false, three_or-true}

-- ---- arithmetic that ends at m

product_within : (m a b x y : ℕ) → min a m ≤ x → min b m ≤ y → min (a * b) m ≤ min (x * y) m
product_within m a b x y h k = omega (arith, min-product m a b, mul-le (min a m) (min b m) x y h k)

some_product : (m x y : ℕ) → 1 ≤ m → 1 ≤ x → 1 ≤ y → 1 ≤ min (x * y) m
some_product m x y some h k = omega (arith, mul-le 1 1 x y h k)

-- ---- bounds of lists

pub added_within : (a b : Counts) (most lits m : ℕ) (xs ys : List Disjunction) → m ≡ largest → most ≡ min (a.clauses + b.clauses) m → lits ≡ min (a.literals + b.literals) m →
    AreWithin xs a → AreWithin ys b → AreWithin (xs ++ ys) (record { clauses = most; literals = lits })
added_within a b most lits m xs ys e p q h k =
    let c = length-append xs ys in
    let l = sum_by-append length xs ys in
    let hc = h.within.clauses in
    let hl = h.within.literals in
    let kc = k.within.clauses in
    let kl = k.within.literals in
    record { some = omega (arith, h.some, p, e); within = record { clauses = omega (arith, c, hc, kc, p, e); literals = omega (arith, l, hl, kl, q, e) } }

pub multiplied_within : (a b : Counts) (left right most lits m : ℕ) (xs ys : List Disjunction) → m ≡ largest → left ≡ min (a.literals * b.clauses) m → right ≡ min (a.clauses * b.literals) m →
    most ≡ min (a.clauses * b.clauses) m → lits ≡ min (left + right) m → AreWithin xs a → AreWithin ys b → AreWithin (joined xs ys) (record { clauses = most; literals = lits })
multiplied_within a b left right most lits m xs ys e p q r s h k =
    let hc : min (length xs) m ≤ a.clauses = subst (λ n. min (length xs) n ≤ a.clauses) (sym e) h.within.clauses in
    let hl : min (sum_by length xs) m ≤ a.literals = subst (λ n. min (sum_by length xs) n ≤ a.literals) (sym e) h.within.literals in
    let kc : min (length ys) m ≤ b.clauses = subst (λ n. min (length ys) n ≤ b.clauses) (sym e) k.within.clauses in
    let kl : min (sum_by length ys) m ≤ b.literals = subst (λ n. min (sum_by length ys) n ≤ b.literals) (sym e) k.within.literals in
    let one : 1 ≤ m = omega (arith, e) in
    let c : min (length (joined xs ys)) m ≤ most = omega (arith, length-joined xs ys, product_within m (length xs) (length ys) a.clauses b.clauses hc kc, r) in
    let lp : min (sum_by length xs * length ys) m ≤ left = omega (arith, product_within m (sum_by length xs) (length ys) a.literals b.clauses hl kc, p) in
    let rp : min (length xs * sum_by length ys) m ≤ right = omega (arith, product_within m (length xs) (sum_by length ys) a.clauses b.literals hc kl, q) in
    let l : min (sum_by length (joined xs ys)) m ≤ lits = omega (arith, literals-joined xs ys, lp, rp, s) in
    record {
      some = omega (arith, some_product m a.clauses b.clauses one h.some k.some, r);
      within = record { clauses = subst (λ n. min (length (joined xs ys)) n ≤ most) e c; literals = subst (λ n. min (sum_by length (joined xs ys)) n ≤ lits) e l };
    }

-- no clause, and the empty clause, are within what has room for it
none_within : (most : Counts) → 1 ≤ most.clauses → AreWithin [] most
none_within most h = record { some = h; within = record { clauses = omega arith; literals = omega arith } }

empty_within : (most : Counts) → 1 ≤ most.clauses → AreWithin ([] ∷ []) most
empty_within most h = record { some = h; within = record { clauses = omega (arith, h); literals = omega arith } }

truth_within : (t : Three) (rows : List Disjunction) (most : Counts) → AreWithin rows most → AreWithin (for_truth t rows) most
truth_within True rows most h = none_within most h.some
truth_within False rows most h = empty_within most h.some
truth_within Unknown rows most h = h

falsity_within : (t : Three) (rows : List Disjunction) (most : Counts) → AreWithin rows most → AreWithin (for_falsity t rows) most
falsity_within True rows most h = empty_within most h.some
falsity_within False rows most h = none_within most h.some
falsity_within Unknown rows most h = h

-- ---- bounds of formulas

-- the same of a formula with the same clauses
same_bound : (b : Bound) (w v : Written) → SameForm w v → IsBound b v → IsBound b w
same_bound Known w v s h = (h.0, s.known ∙ h.1)
same_bound (Open p m) w v s h = (subst (λ r. AreWithin r p) (sym s.plus_same) h.0, subst (λ r. AreWithin r m) (sym s.minus_same) h.1)

-- what is known has any bound that another formula has
known_bound : (b : Bound) (t : Bool) (w v : Written) → known_truth w ≡ three_of t → IsBound b v → IsBound b w
known_bound Known t w v e h = (t, e)
known_bound (Open p m) true w v e h = (subst (λ r. AreWithin r p) (sym (plus_true w e)) (none_within p h.0.some), subst (λ r. AreWithin r m) (sym (minus_true w e)) (empty_within m h.1.some))
known_bound (Open p m) false w v e h = (subst (λ r. AreWithin r p) (sym (plus_false w e)) (empty_within p h.0.some), subst (λ r. AreWithin r m) (sym (minus_false w e)) (none_within m h.1.some))

pub known_as : (b : Bool) → IsBound Known (Truth b)
known_as b = (b, refl)

pub and_known_left : (b : Bound) (x y : Written) → IsBound Known x → IsBound b y → IsBound b (And x y)
and_known_left b x y (true, e) k = same_bound b (And x y) y (and_true_left x y e) k
and_known_left b x y (false, e) k = known_bound b false (And x y) y (ap (λ t. three_and t (known_truth y)) e) k

pub and_known_right : (b : Bound) (x y : Written) → IsBound b x → IsBound Known y → IsBound b (And x y)
and_known_right b x y h (true, e) = same_bound b (And x y) x (and_true_right x y e) h
and_known_right b x y h (false, e) = known_bound b false (And x y) x (ap (λ t. three_and (known_truth x) t) e ∙ three_and-false (known_truth x)) h

pub or_known_left : (b : Bound) (x y : Written) → IsBound Known x → IsBound b y → IsBound b (Or x y)
or_known_left b x y (false, e) k = same_bound b (Or x y) y (or_false_left x y e) k
or_known_left b x y (true, e) k = known_bound b true (Or x y) y (ap (λ t. three_or t (known_truth y)) e) k

pub or_known_right : (b : Bound) (x y : Written) → IsBound b x → IsBound Known y → IsBound b (Or x y)
or_known_right b x y h (false, e) = same_bound b (Or x y) x (or_false_right x y e) h
or_known_right b x y h (true, e) = known_bound b true (Or x y) x (ap (λ t. three_or (known_truth x) t) e ∙ three_or-true (known_truth x)) h

-- of a formula and of its negation
abbrev pub IsUnsigned : Bound → Written → Type 0
IsUnsigned b x = IsBound b x × IsBound b (Neg x)

pub iff_known_left : (b : Bound) (x y : Written) → IsBound Known x → IsUnsigned b y → IsBound b (Iff x y)
iff_known_left b x y (true, e) k = same_bound b (Iff x y) y (iff_true_left x y e) k.0
iff_known_left b x y (false, e) k = same_bound b (Iff x y) (Neg y) (iff_false_left x y e) k.1

pub iff_known_right : (b : Bound) (x y : Written) → IsUnsigned b x → IsBound Known y → IsBound b (Iff x y)
iff_known_right b x y h (true, e) = same_bound b (Iff x y) x (iff_true_right x y e) h.0
iff_known_right b x y h (false, e) = same_bound b (Iff x y) (Neg x) (iff_false_right x y e) h.1

pub iff_bound : (p m q n a b c d s t : Counts) (x y : Written) →
    ((xs ys : List Disjunction) → AreWithin xs m → AreWithin ys q → AreWithin (joined xs ys) a) →
    ((xs ys : List Disjunction) → AreWithin xs p → AreWithin ys n → AreWithin (joined xs ys) b) →
    ((xs ys : List Disjunction) → AreWithin xs m → AreWithin ys n → AreWithin (joined xs ys) c) →
    ((xs ys : List Disjunction) → AreWithin xs p → AreWithin ys q → AreWithin (joined xs ys) d) →
    ((xs ys : List Disjunction) → AreWithin xs a → AreWithin ys b → AreWithin (xs ++ ys) s) →
    ((xs ys : List Disjunction) → AreWithin xs c → AreWithin ys d → AreWithin (xs ++ ys) t) →
    IsBound (Open p m) x → IsBound (Open q n) y → IsBound (Open s t) (Iff x y)
iff_bound p m q n a b c d s t x y f g u v both_plus both_minus h k = (
  truth_within (known_truth (Iff x y)) (joined (minus x) (plus y) ++ joined (plus x) (minus y)) s
      (both_plus (joined (minus x) (plus y)) (joined (plus x) (minus y)) (f (minus x) (plus y) h.1 k.0) (g (plus x) (minus y) h.0 k.1)),
  falsity_within (known_truth (Iff x y)) (joined (minus x) (minus y) ++ joined (plus x) (plus y)) t
      (both_minus (joined (minus x) (minus y)) (joined (plus x) (plus y)) (u (minus x) (minus y) h.1 k.1) (v (plus x) (plus y) h.0 k.0)),
)

-- ---- chains

pub are_bounded : (b : Bound) (g : ℕ → Written) (vs : List ℕ) → ((v : ℕ) → IsBound b (g v)) → AreBounded b (map g vs)
are_bounded b g [] h = tt
are_bounded b g (v ∷ vs) h = (h v, are_bounded b g vs h)

pub one_chained : (b : Bound) (ws : List Written) → length ws ≡ 1 → AreBounded b ws → IsBound b (and_chain ws) × IsBound b (or_chain ws)
one_chained b [] e h = absurd (omega (arith, e))
one_chained b (w ∷ []) e h = (h.0, h.0)
one_chained b (w ∷ v ∷ ws) e h = absurd (omega (arith, e))

pub all_longer : (part all next : Bound) (k : ℕ) → 1 ≤ k → ((x y : Written) → IsBound part x → IsBound all y → IsBound next (And x y)) →
    ((ws : List Written) → length ws ≡ k → AreBounded part ws → IsBound all (and_chain ws)) → (ws : List Written) → length ws ≡ suc k → AreBounded part ws → IsBound next (and_chain ws)
all_longer part all next k some f ih [] e h = absurd (omega (arith, e))
all_longer part all next k some f ih (w ∷ []) e h = absurd (omega (arith, e, some))
all_longer part all next k some f ih (w ∷ v ∷ ws) e h = f w (and_chain (v ∷ ws)) h.0 (ih (v ∷ ws) (omega (arith, e)) h.1)

pub some_longer : (part all next : Bound) (k : ℕ) → 1 ≤ k → ((x y : Written) → IsBound part x → IsBound all y → IsBound next (Or x y)) →
    ((ws : List Written) → length ws ≡ k → AreBounded part ws → IsBound all (or_chain ws)) → (ws : List Written) → length ws ≡ suc k → AreBounded part ws → IsBound next (or_chain ws)
some_longer part all next k some f ih [] e h = absurd (omega (arith, e))
some_longer part all next k some f ih (w ∷ []) e h = absurd (omega (arith, e, some))
some_longer part all next k some f ih (w ∷ v ∷ ws) e h = f w (or_chain (v ∷ ws)) h.0 (ih (v ∷ ws) (omega (arith, e)) h.1)

-- ---- measures

pub known_within : (most : Counts) (w : Written) → 1 ≤ most.clauses → IsBound Known w → IsWithin (measure_of w) most
known_within most w some (true, e) = subst (λ r. IsWithin (capped_counts r) most) (sym (plus_true w e)) (none_within most some).within
known_within most w some (false, e) = subst (λ r. IsWithin (capped_counts r) most) (sym (plus_false w e)) (empty_within most some).within
