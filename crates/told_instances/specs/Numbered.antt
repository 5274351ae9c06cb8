-- The number of an instance by its values, one leading universal after another.
use Rattle.std.specs.Prelude.{ℕ, ◌+◌, ◌*◌, ◌<◌, ◌^◌, List, length, slice_index}
use Rattle.vocab.specs.Limits.{instance_count}
use Rattle.vocab.specs.Size.{Extent}
use Rattle.vocab.specs.Tree.{Tree, All}

-- that of the values from a level on: the value at the level counts as many instances as there are of the rest
abbrev pub number_from : Extent → Tree → List ℕ → ℕ → ℕ
number_from size (All s f) values level = slice_index values level * instance_count size f + number_from size f values (level + 1)
number_from size _ values level = 0

-- there is a value for each leading universal, and all numbers on the way fit a machine word
abbrev pub IsNumbered : Extent → Tree → List ℕ → ℕ → Type 0
IsNumbered size (All s f) values level =
    (level < length values) × (instance_count size f < 2 ^ 64) × (number_from size (All s f) values level < 2 ^ 64) × IsNumbered size f values (level + 1)
IsNumbered size _ values level = Unit {0}
