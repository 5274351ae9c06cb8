-- The texts of items one after another.
use Rattle.std.specs.Prelude.{ℕ, ◌+◌, List, [], ◌∷◌, ◌++◌}

-- each by its number, from a number on
abbrev pub spelled : {X : Type 0} → (ℕ → X → List ℕ) → ℕ → List X → List ℕ
spelled text n [] = []
spelled text n (x ∷ xs) = text n x ++ spelled text (n + 1) xs
