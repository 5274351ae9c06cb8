-- Texts of letters.
use Rattle.std.proofs.Common.{◌≡◌, ◌∙◌, refl, sym, ap, ap₂, ℕ, ◌-◌, ◌^◌, ◌<◌, List, [], ◌∷◌, map, arith}
use Rattle.meaning.specs.Subsets.{elements}
use Rattle.meaning.specs.Texts.{letter}
use Rattle.meaning.proofs.SubsetLaws.{same_elements}

-- the alternatives of letters
abbrev alternatives_of : List ℕ → List ℕ
alternatives_of text = map (λ c. c - 97) text

letters_back : (xs : List ℕ) → alternatives_of (map letter xs) ≡ xs
letters_back [] = refl
letters_back (x ∷ xs) = let back : letter x - 97 ≡ x = omega arith in ap₂ (λ y ys. y ∷ ys) back (letters_back xs)

-- each alternative has a letter of its own
pub letters_same : (xs ys : List ℕ) → map letter xs ≡ map letter ys → xs ≡ ys
letters_same xs ys e = sym (letters_back xs) ∙ ap alternatives_of e ∙ letters_back ys

-- so each set has a text of its own
pub set_texts_same : (m o q : ℕ) → o < 2 ^ m - 1 → q < 2 ^ m - 1 → map letter (elements m o) ≡ map letter (elements m q) → o ≡ q
set_texts_same m o q in_o in_q e = same_elements m o q in_o in_q (letters_same (elements m o) (elements m q) e)
