-- The quantifiers around a part of a sentence, innermost first.
use Rattle.std.specs.Prelude.{ℕ, List, [], ◌∷◌, ◌++◌, length, if◌then◌else◌, Option}
use Rattle.std.specs.Map.{lookup}
use Rattle.std.specs.Str.{bytes_eq}
use Rattle.vocab.specs.declared.kinds.Sort.{Sort}

-- the name and the sort of each quantifier
abbrev pub Scope : Type 0
Scope = List (List ℕ × Sort)

-- the sort of the innermost quantifier that binds a name, if one does
unfoldable pub sort_in : List ℕ → Scope → Option Sort
sort_in name scope = lookup (bytes_eq name) scope

-- how many quantifiers stand outside the innermost that binds a name
abbrev pub level_in : List ℕ → Scope → ℕ
level_in name [] = 0
level_in name (q ∷ outer) = if bytes_eq name q.0 then length outer else level_in name outer

-- the second parts from the outermost quantifier in: its sorts, or the values of its variables
abbrev pub outermost_first : {A : Type 0} → List (List ℕ × A) → List A
outermost_first [] = []
outermost_first (q ∷ outer) = outermost_first outer ++ q.1 ∷ []

-- the names, innermost first
abbrev pub names_of : {A : Type 0} → List (List ℕ × A) → List (List ℕ)
names_of [] = []
names_of (q ∷ outer) = q.0 ∷ names_of outer
