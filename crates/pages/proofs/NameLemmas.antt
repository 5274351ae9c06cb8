-- Names of files as they stand on a page.
use Rattle.std.proofs.Common.{◌≡◌, refl, ◌∙◌, ℕ, ◌<◌, ◌≤◌, ◌==◌, ◌/◌, ◌%◌, Bool, true, false, if◌then◌else◌, codes, List, [], ◌∷◌, ◌++◌, arith, inl, inr}
use Rattle.std.specs.Int.{is_in_range}
use Rattle.std.specs.Prelude.{nat_lt, nat_le}
use Rattle.std.specs.List.{flat_map, list_all}
use Rattle.std.proofs.Math.Nat.{mod-lt}
use Rattle.std.proofs.lemmas.Bool.{and_from, and_parts, or_cases, eqb-true, leb-true, ne_eqb, lt-ltb, ltb-true}
use Rattle.std.proofs.lemmas.List.Folds.{list_all-append}
use Rattle.pages.specs.FileNames.{is_ordinary, octal, shell_quoted, shell_word}
use Rattle.pages.specs.Laws.{is_shown}

-- a byte between two bounds, neither of which is passed
shown : (b : ℕ) → 31 < b → (b ≡ 127 → ⊥) → (b ≡ 194 → ⊥) → is_shown b ≡ true
shown b low one two = rw (lt-ltb 31 b low, ne_eqb b 127 one, ne_eqb b 194 two) refl

digit_shown : (n : ℕ) → is_shown (octal n) ≡ true
digit_shown n = let lt : n % 8 < 8 = mod-lt n (omega arith) in shown (octal n) (omega arith) (λ e. absurd (omega arith)) (λ e. absurd (omega arith))

-- bytes of a range that has none of the others
ranged : (b low high : ℕ) → is_in_range low high b ≡ true → (low ≤ b) × (b ≤ high)
ranged b low high h = let p = and_parts (nat_le low b) (nat_le b high) h in (leb-true low b p.0, leb-true b high p.1)

plain : (b low high : ℕ) → nat_lt 31 low ≡ true → nat_lt high 127 ≡ true → is_in_range low high b ≡ true → is_shown b ≡ true
plain b low high l m h =
    let r = ranged b low high h in
    let from = ltb-true 31 low l in
    let to = ltb-true high 127 m in
    shown b (omega arith) (λ e. absurd (omega arith)) (λ e. absurd (omega arith))

beyond : (b low high : ℕ) → nat_lt 127 low ≡ true → nat_lt high 194 ≡ true → is_in_range low high b ≡ true → is_shown b ≡ true
beyond b low high l m h =
    let r = ranged b low high h in
    let from = ltb-true 127 low l in
    let to = ltb-true high 194 m in
    shown b (omega arith) (λ e. absurd (omega arith)) (λ e. absurd (omega arith))

far : (b low high : ℕ) → nat_lt 194 low ≡ true → is_in_range low high b ≡ true → is_shown b ≡ true
far b low high l h =
    let r = ranged b low high h in
    let from = ltb-true 194 low l in
    shown b (omega arith) (λ e. absurd (omega arith)) (λ e. absurd (omega arith))

ordinary_shown : (b : ℕ) → is_ordinary b ≡ true → is_shown b ≡ true
ordinary_shown b h = elim (or_cases _ _ h) [
  | inr e ↦ far b 227 238 refl e
  | inl h ↦ elim (or_cases _ _ h) [
    | inr e ↦ far b 195 225 refl e
    | inl h ↦ elim (or_cases _ _ h) [
      | inr e ↦ beyond b 128 191 refl refl e
      | inl h ↦ elim (or_cases _ _ h) [
        | inr e ↦ plain b 97 122 refl refl e
        | inl h ↦ elim (or_cases _ _ h) [
          | inr e ↦ rw (eqb-true b 95 e) refl
          | inl h ↦ elim (or_cases _ _ h) [
            | inr e ↦ plain b 64 90 refl refl e
            | inl e ↦ plain b 43 58 refl refl e
          ]
        ]
      ]
    ]
  ]
]

all_ordinary : (name : List ℕ) → list_all is_ordinary name ≡ true → list_all is_shown name ≡ true
all_ordinary [] h = refl
all_ordinary (b ∷ name) h = let p = and_parts (is_ordinary b) (list_all is_ordinary name) h in and_from (is_shown b) (list_all is_shown name) (ordinary_shown b p.0) (all_ordinary name p.1)

-- a byte that is quoted, by its tests
by_tests : (b : ℕ) (mark slash sign : Bool) → is_in_range 32 126 b ≡ sign →
    list_all is_shown (if mark then codes "\\'" else (if slash then codes "\\\\" else (if sign then b ∷ [] else 92 ∷ octal (b / 8 / 8) ∷ octal (b / 8) ∷ octal b ∷ []))) ≡ true
by_tests b true slash sign e = refl
by_tests b false true sign e = refl
by_tests b false false true e = and_from (is_shown b) true (plain b 32 126 refl refl e) refl
by_tests b false false false e = rw (digit_shown (b / 8 / 8), digit_shown (b / 8), digit_shown b) refl

all_quoted : (name : List ℕ) → list_all is_shown (flat_map shell_quoted name) ≡ true
all_quoted [] = refl
all_quoted (b ∷ name) =
    list_all-append is_shown (shell_quoted b) (flat_map shell_quoted name)
    ∙ and_from (list_all is_shown (shell_quoted b)) (list_all is_shown (flat_map shell_quoted name)) (by_tests b (b == 39) (b == 92) (is_in_range 32 126 b) refl) (all_quoted name)

by_words : (name : List ℕ) (plainly : Bool) → list_all is_ordinary name ≡ plainly → list_all is_shown (if plainly then name else codes "$'" ++ flat_map shell_quoted name ++ codes "'") ≡ true
by_words name true e = all_ordinary name e
by_words name false e = list_all-append is_shown (codes "$'" ++ flat_map shell_quoted name) (codes "'") ∙ and_from _ true (list_all-append is_shown (codes "$'") (flat_map shell_quoted name) ∙ and_from true _ refl (all_quoted name)) refl

-- no control byte of a file's name is in its word
pub all_shown : (name : List ℕ) → list_all is_shown (shell_word name) ≡ true
all_shown name = by_words name (list_all is_ordinary name) refl
