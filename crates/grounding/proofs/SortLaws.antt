-- A sorted clause has the codes of its row, and rises where no variable has both signs.
use mathlib.Core.Bool.{or_self_left}
use Rattle.std.proofs.Common.{◌≡◌, ◌<◌, ◌≤◌, ◌+◌, ◌*◌, ◌/◌, ◌%◌, ◌==◌, ℕ, Bool, true, false, ◌||◌, ◌&&◌, not, nat_eq, nat_lt, List, [], ◌∷◌, map, if◌then◌else◌, refl, sym, ap, ap₂, ◌∙◌, subst, arith, true≢false}
use Rattle.std.specs.Bool.{beq}
use Rattle.std.specs.List.{list_any}
use Rattle.std.specs.Prelude.{All}
use Rattle.std.proofs.lemmas.List.Elements.{All-head, All-tail}
use Rattle.cnf.specs.Signed.{Signed, literal_code}
use Rattle.cnf.specs.Sat.{Clause, has_lit, is_tautology, opposite_lit, same_lit}
use Rattle.meaning.specs.StudyClauses.{sorted, sorted_in}
use Rattle.meaning.proofs.TestLaws.{or_swap}
use Rattle.grounding.specs.Distinct.{codes_of}
use Rattle.grounding.specs.Rising.{ArePositive, RisesFrom, includes, literal_of_code}
use Rattle.grounding.proofs.FirstsLaws.{same_codes}
use Rattle.grounding.proofs.RisingLaws.{rising_same}
use Rattle.std.proofs.lemmas.Bool.{or_parts}

-- ---- codes

code_low : (l : Signed) → 2 * l.variable ≤ literal_code l
code_low l = by l.positive
  where
    by : (p : Bool) → 2 * l.variable ≤ 2 * l.variable + (if p then 1 else 0)
    by true = omega arith
    by false = omega arith

code_high : (l : Signed) → literal_code l ≤ 2 * l.variable + 1
code_high l = by l.positive
  where
    by : (p : Bool) → 2 * l.variable + (if p then 1 else 0) ≤ 2 * l.variable + 1
    by true = omega arith
    by false = omega arith

code_same : (l x : Signed) → same_lit l x ≡ true → literal_code l ≡ literal_code x
code_same l x e = let s : (literal_code l == literal_code x) ≡ true = same_codes l x ∙ e in grind (arith, s)

-- the other sign of a variable
code_other : (l x : Signed) → l.variable ≡ x.variable → same_lit l x ≡ false → literal_code x ≡ literal_code (opposite_lit l)
code_other l x v e = by l.variable x.variable l.positive x.positive v e
  where
    by : (v w : ℕ) (p q : Bool) → v ≡ w → (v == w && beq p q) ≡ false → 2 * w + (if q then 1 else 0) ≡ 2 * v + (if not p then 1 else 0)
    by v w true true s e = (let t : (v == w && true) ≡ true = grind (arith, s) in absurd (true≢false (sym t ∙ e)))
    by v w true false s e = omega (arith, s)
    by v w false true s e = omega (arith, s)
    by v w false false s e = (let t : (v == w && true) ≡ true = grind (arith, s) in absurd (true≢false (sym t ∙ e)))

-- ---- what a sorted clause has

sorted_in_has : (l : Signed) (ks : Clause) (k : ℕ) → includes (codes_of (sorted_in l ks)) k ≡ (nat_eq k (literal_code l) || includes (codes_of ks) k)
sorted_in_has l [] k = refl
sorted_in_has l (x ∷ xs) k = by (nat_lt l.variable x.variable) (same_lit l x) refl (sorted_in_has l xs k)
  where
    by : (b c : Bool) → same_lit l x ≡ c → includes (codes_of (sorted_in l xs)) k ≡ (nat_eq k (literal_code l) || includes (codes_of xs) k)
        → includes (codes_of (if b then l ∷ x ∷ xs else (if c then x ∷ xs else x ∷ sorted_in l xs))) k ≡ (nat_eq k (literal_code l) || (nat_eq k (literal_code x) || includes (codes_of xs) k))
    by true c e ih = refl
    by false true e ih =
        sym (or_self_left (nat_eq k (literal_code x)) (includes (codes_of xs) k)) ∙ ap (λ (n : ℕ). nat_eq k n || (nat_eq k (literal_code x) || includes (codes_of xs) k)) (sym (code_same l x e))
    by false false e ih = ap (λ b. nat_eq k (literal_code x) || b) ih ∙ or_swap (nat_eq k (literal_code x)) (nat_eq k (literal_code l)) (includes (codes_of xs) k)

pub sorted_has : (row : Clause) (k : ℕ) → includes (codes_of (sorted row)) k ≡ includes (codes_of row) k
sorted_has [] k = refl
sorted_has (l ∷ ls) k = sorted_in_has l (sorted ls) k ∙ ap (λ b. nat_eq k (literal_code l) || b) (sorted_has ls k)

-- ---- how it rises

sorted_in_above : (n : ℕ) (l : Signed) (ks : Clause) → RisesFrom n (codes_of ks) → n < literal_code l → includes (codes_of ks) (literal_code (opposite_lit l)) ≡ false → RisesFrom n (codes_of (sorted_in l ks))
sorted_in_above n l [] h e o = (e, record {})
sorted_in_above n l (x ∷ xs) h e o =
    by (nat_lt l.variable x.variable) (same_lit l x) refl refl (λ m g f. sorted_in_above m l xs g f (or_parts (nat_eq (literal_code (opposite_lit l)) (literal_code x)) (includes (codes_of xs) (literal_code (opposite_lit l))) o).1)
  where
    not_other : literal_code x ≡ literal_code (opposite_lit l) → ⊥
    not_other s = (let t : nat_eq (literal_code (opposite_lit l)) (literal_code x) ≡ true = grind (arith, s) in
        true≢false (sym t ∙ (or_parts (nat_eq (literal_code (opposite_lit l)) (literal_code x)) (includes (codes_of xs) (literal_code (opposite_lit l))) o).0))

    by : (b c : Bool) → nat_lt l.variable x.variable ≡ b → same_lit l x ≡ c
        → ((m : ℕ) → RisesFrom m (codes_of xs) → m < literal_code l → RisesFrom m (codes_of (sorted_in l xs)))
        → RisesFrom n (codes_of (if b then l ∷ x ∷ xs else (if c then x ∷ xs else x ∷ sorted_in l xs)))
    by true c lower same ih = (let v : l.variable < x.variable = grind (arith, lower) in (e, (omega (arith, v, code_high l, code_low x), h.1)))
    by false true lower same ih = h
    by false false lower same ih =
        let v : x.variable ≤ l.variable = grind (arith, lower) in
        let d : l.variable ≡ x.variable → ⊥ = (λ s. not_other (code_other l x s same)) in
        (h.0, ih (literal_code x) h.1 (omega (arith, v, d, code_high x, code_low l)))

-- ---- rows with no variable of both signs

-- a literal stands in a row where its code does
pub has_codes : (row : Clause) (l : Signed) → includes (codes_of row) (literal_code l) ≡ has_lit row l
has_codes [] l = refl
has_codes (x ∷ xs) l = ap₂ (λ a b. a || b) (same_codes l x) (has_codes xs l)

-- a row with a part that has a pair has it
later_pair : (l : Signed) (row part : Clause) → list_any (λ k. has_lit (l ∷ row) (opposite_lit k)) part ≡ false → list_any (λ k. has_lit row (opposite_lit k)) part ≡ false
later_pair l row [] e = refl
later_pair l row (k ∷ part) e =
    ap₂ (λ a b. a || b)
    (or_parts (same_lit (opposite_lit k) l) (has_lit row (opposite_lit k)) (or_parts (has_lit (l ∷ row) (opposite_lit k)) (list_any (λ j. has_lit (l ∷ row) (opposite_lit j)) part) e).0).1
    (later_pair l row part (or_parts (has_lit (l ∷ row) (opposite_lit k)) (list_any (λ j. has_lit (l ∷ row) (opposite_lit j)) part) e).1)

pub sorted_above : (row : Clause) → ArePositive row → is_tautology row ≡ false → RisesFrom 0 (codes_of (sorted row))
sorted_above [] p e = record {}
sorted_above (l ∷ ls) p e =
    let first : has_lit (l ∷ ls) (opposite_lit l) ≡ false = (or_parts (has_lit (l ∷ ls) (opposite_lit l)) (list_any (λ k. has_lit (l ∷ ls) (opposite_lit k)) ls) e).0 in
    let rest : is_tautology ls ≡ false = later_pair l ls ls (or_parts (has_lit (l ∷ ls) (opposite_lit l)) (list_any (λ k. has_lit (l ∷ ls) (opposite_lit k)) ls) e).1 in
    sorted_in_above 0 l (sorted ls) (sorted_above ls p.1 rest) p.0
    (sorted_has ls (literal_code (opposite_lit l)) ∙ has_codes ls (opposite_lit l) ∙ (or_parts (same_lit (opposite_lit l) l) (has_lit ls (opposite_lit l)) first).1)

-- the one rising list that has the codes of a row is its sorted clause
pub sorted_same : (row : Clause) (merged : List ℕ) → ArePositive row → is_tautology row ≡ false → RisesFrom 0 merged → ((k : ℕ) → includes merged k ≡ includes (codes_of row) k) → merged ≡ codes_of (sorted row)
sorted_same row merged p e h same = rising_same 0 merged (codes_of (sorted row)) h (sorted_above row p e) (λ k. same k ∙ sym (sorted_has row k))

-- codes and literals are one to one
coded : (l : Signed) → literal_of_code (literal_code l) ≡ l
coded l = by l.variable l.positive
  where
    by : (v : ℕ) (p : Bool) → literal_of_code (2 * v + (if p then 1 else 0)) ≡ record { variable = v; positive = p }
    by v true = ap₂ (λ (w : ℕ) (q : Bool). let x : Signed = record { variable = w; positive = q } in x) (let e : (2 * v + 1) / 2 ≡ v = omega arith in e) (let e : ((2 * v + 1) % 2 == 1) ≡ true = grind arith in e)
    by v false = ap₂ (λ (w : ℕ) (q : Bool). let x : Signed = record { variable = w; positive = q } in x) (let e : (2 * v + 0) / 2 ≡ v = omega arith in e) (let e : ((2 * v + 0) % 2 == 1) ≡ false = grind arith in e)

pub all_coded : (c : Clause) → map literal_of_code (codes_of c) ≡ c
all_coded [] = refl
all_coded (l ∷ ls) = ap₂ (λ k ks. k ∷ ks) (coded l) (all_coded ls)

pub positive : (row : Clause) (ns : List ℕ) → ns ≡ codes_of row → All (λ n. 1 < n) ns → ArePositive row
positive [] ns e h = record {}
positive (l ∷ ls) ns e h =
    let g : All (λ n. 1 < n) (codes_of (l ∷ ls)) = subst (λ ms. All (λ n. 1 < n) ms) e h in
    let first : 1 < literal_code l = All-head (λ n. 1 < n) (literal_code l) (codes_of ls) g in
    (omega (arith, first), positive ls (codes_of ls) refl (All-tail (λ n. 1 < n) (literal_code l) (codes_of ls) g))
