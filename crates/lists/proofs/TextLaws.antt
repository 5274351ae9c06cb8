-- Texts that are compared byte by byte.
use Rattle.std.proofs.Common.{◌≡◌, ◌≢◌, refl, sym, ◌∙◌, ℕ, Bool, true, false, true≢false, List}
use Rattle.std.specs.Str.{bytes_eq}
use Rattle.std.specs.Cmp.Lexicographic.{bytes_decides}
use Rattle.std.proofs.lemmas.Slice.Eq.{bytes_eq-Decides}

pub same_bytes : (xs : List ℕ) → bytes_eq xs xs ≡ true
same_bytes xs = (bytes_decides xs xs).1 refl

pub same_from_test : (xs ys : List ℕ) → bytes_eq xs ys ≡ true → xs ≡ ys
same_from_test xs ys h = (bytes_eq-Decides xs ys).0 h

-- two texts that differ are told apart, and what is told apart differs
pub differ : (xs ys : List ℕ) → xs ≢ ys → bytes_eq xs ys ≡ false
differ xs ys other = by_case (bytes_eq xs ys) refl
  where
    by_case : (b : Bool) → bytes_eq xs ys ≡ b → bytes_eq xs ys ≡ false
    by_case true e = absurd (other ((bytes_decides xs ys).0 e))
    by_case false e = e

pub differs : (text other : List ℕ) → bytes_eq text other ≡ false → text ≢ other
differs text other h e = true≢false (sym ((bytes_eq-Decides text other).1 e) ∙ h)
