-- Variables that are marked by stamps.
use Rattle.std.specs.Prelude.{ℕ, ◌==◌, Bool, List, map}

-- which variables are marked: those whose stamp is the number of the round
abbrev pub marks_of : ℕ → List ℕ → List Bool
marks_of round stamps = map (λ stamp. stamp == round) stamps
