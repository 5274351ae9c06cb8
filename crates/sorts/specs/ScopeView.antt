-- The quantifiers that a scope of the program holds.
use Rattle.std.specs.Prelude.{ℕ, List, [], ◌∷◌}
use Rattle.vocab.specs.declared.kinds.Sort.{Sort}
use Rattle.sorts.specs.declared.scope.Scope.{Scope}
use Rattle.sorts.specs.declared.scope.Scope.TheVariants.{Outside, Inside'}

-- innermost first
abbrev pub scope_of : Scope → List (List ℕ × Sort)
scope_of Outside = []
scope_of (Inside' name sort _ outer) = (name, sort) ∷ scope_of outer
