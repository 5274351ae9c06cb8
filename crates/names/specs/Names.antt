-- Names that an index finds.
use Rattle.std.specs.Prelude.{◌≡◌, ℕ, List}
use Rattle.std.specs.List.{position_from}
use Rattle.std.specs.Map.{lookup}
use Rattle.std.specs.Str.{bytes_eq}
use Rattle.names.specs.declared.index.NameIndex.{NameIndex}

-- under each name an index has the place of the first of some names that is equal to it, and none where none is; places are counted from `first`
abbrev pub FindsFirst : NameIndex → ℕ → List (List ℕ) → Type 0
FindsFirst index first names = (name : List ℕ) → lookup (λ key. bytes_eq name key.items) index.places.entries ≡ position_from (λ n. bytes_eq n name) first names
