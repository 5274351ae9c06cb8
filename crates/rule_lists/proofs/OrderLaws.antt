-- The lexicographic order of tables.
use Rattle.std.proofs.Common.{◌≡◌, refl, sym, ◌∙◌, ap₂, subst, ℕ, Bool, true, false, ◌&&◌, List, [], ◌∷◌, ◌++◌, arith, true≢false, eqb-true, ltb-false, lt-ltb}
use Rattle.std.specs.Prelude.{◌==◌, nat_lt}
use Rattle.std.specs.List.{list_all}
use Rattle.std.specs.Str.{bytes_eq}
use Rattle.std.proofs.lemmas.Bool.{eqb-false, and_parts, and_from, or_left, or_right, or_parts}
use Rattle.std.proofs.lemmas.List.Folds.{list_all-append}
use Rattle.lists.proofs.OrderLaws.{IsLexicographic, lexicographic_on}
use Rattle.lists.proofs.TestLaws.{all_weaker}
use Rattle.meaning.proofs.TestLaws.{rest_false}
use Rattle.rule_lists.specs.RuleLists.{has_table, is_table_before, are_tables_rising}
use Rattle.lists.proofs.NumberLaws.{same_test}

ordered : IsLexicographic is_table_before
ordered = record { none = refl; more = λ y b. refl; fewer = λ x a. refl; each = λ x y a b. refl }

-- what comes before a table comes before all that this one comes before
before_on : (a b c : List ℕ) → is_table_before a b ≡ true → is_table_before b c ≡ true → is_table_before a c ≡ true
before_on a b c h k = lexicographic_on is_table_before ordered a b c h k

-- of two tables that are not the same one comes before the other
pub one_before : (a b : List ℕ) → bytes_eq a b ≡ false → is_table_before a b ≡ false → is_table_before b a ≡ true
one_before [] [] other h = absurd (true≢false other)
one_before [] (y ∷ b) other h = absurd (true≢false h)
one_before (x ∷ a) [] other h = refl
one_before (x ∷ a) (y ∷ b) other h = cases (x == y) refl (one_before a b)
  where
    parts : (nat_lt x y ≡ false) × ((x == y && is_table_before a b) ≡ false)
    parts = or_parts (nat_lt x y) (x == y && is_table_before a b) h

    cases : (e : Bool) → (x == y) ≡ e → (bytes_eq a b ≡ false → is_table_before a b ≡ false → is_table_before b a ≡ true) → is_table_before (y ∷ b) (x ∷ a) ≡ true
    cases true e ih = or_right (nat_lt y x) _ (and_from (y == x) (is_table_before b a)
        (subst (λ (n : ℕ). (n == x) ≡ true) (eqb-true x y e) (subst (λ (n : ℕ). (x == n) ≡ true) (sym (eqb-true x y e)) e))
        (ih (rest_false (x == y) (bytes_eq a b) e other) (rest_false (x == y) (is_table_before a b) e parts.1)))
    cases false e ih = or_left _ _ (let p = ltb-false x y parts.0 in let q = eqb-false x y e in lt-ltb y x (omega (arith, p, q)))

all_after : (x b : List ℕ) (tables : List (List ℕ)) → is_table_before x b ≡ true → list_all (is_table_before b) tables ≡ true → list_all (is_table_before x) tables ≡ true
all_after x b tables h all = all_weaker (is_table_before b) (is_table_before x) (λ t. before_on x b t h) tables all

flipped : (a b : List ℕ) → bytes_eq b a ≡ bytes_eq a b
flipped [] [] = refl
flipped [] (y ∷ b) = refl
flipped (x ∷ a) [] = refl
flipped (x ∷ a) (y ∷ b) = ap₂ (λ (p q : Bool). p && q) (same_test y x x y (λ e. sym e) (λ e. sym e)) (flipped a b)

rising_rest : (table : List ℕ) (after : List (List ℕ)) → are_tables_rising after ≡ true → has_table after table ≡ false → (first : (t : List ℕ) (rest : List (List ℕ)) → after ≡ t ∷ rest → is_table_before t table ≡ false)
    → are_tables_rising (table ∷ after) ≡ true
rising_rest table [] rising fresh first = refl
rising_rest table (t ∷ rest) rising fresh first =
    let p = and_parts (list_all (is_table_before t) rest) (are_tables_rising rest) rising in
    let other = or_parts (bytes_eq table t) (has_table rest table) fresh in
    let here : is_table_before table t ≡ true = one_before t table (flipped table t ∙ other.0) (first t rest refl) in
    and_from (list_all (is_table_before table) (t ∷ rest)) (are_tables_rising (t ∷ rest))
    (and_from (is_table_before table t) (list_all (is_table_before table) rest) here (all_after table t rest here p.0)) rising

-- a table that is put after those that come before it, and before one that does not, stands in order
pub put_in_order : (table : List ℕ) (before after : List (List ℕ)) → are_tables_rising (before ++ after) ≡ true → has_table (before ++ after) table ≡ false
    → list_all (λ t. is_table_before t table) before ≡ true → ((t : List ℕ) (rest : List (List ℕ)) → after ≡ t ∷ rest → is_table_before t table ≡ false)
    → are_tables_rising (before ++ table ∷ after) ≡ true
put_in_order table [] after rising fresh front first = rising_rest table after rising fresh first
put_in_order table (b ∷ before) after rising fresh front first =
    let p = and_parts (list_all (is_table_before b) (before ++ after)) (are_tables_rising (before ++ after)) rising in
    let q = and_parts (is_table_before b table) (list_all (λ t. is_table_before t table) before) front in
    let parts = and_parts (list_all (is_table_before b) before) (list_all (is_table_before b) after) (sym (list_all-append (is_table_before b) before after) ∙ p.0) in
    and_from (list_all (is_table_before b) (before ++ table ∷ after)) (are_tables_rising (before ++ table ∷ after))
    (list_all-append (is_table_before b) before (table ∷ after) ∙ and_from (list_all (is_table_before b) before) (list_all (is_table_before b) (table ∷ after)) parts.0 (and_from (is_table_before b table) (list_all (is_table_before b) after) q.0 parts.1))
    (put_in_order table before after p.1 (or_parts (bytes_eq table b) (has_table (before ++ after) table) fresh).1 q.1 first)
