-- Nonempty sets of alternatives, by their codes.
use Rattle.std.specs.Prelude.{ℕ, ◌+◌, Bool, List, filter}
use Rattle.vocab.specs.Size.{is_digit_set}
use Rattle.meaning.specs.Space.{below}

-- an alternative x is an element of the set of a code where 2^x is one of the different powers of two whose sum is
-- code + 1; so the codes below 2^m - 1 stand for the sets of the first m alternatives that are not empty
abbrev pub is_element : (code x : ℕ) → Bool
is_element code x = is_digit_set (code + 1) x

-- the elements of a set, rising
abbrev pub elements : (m code : ℕ) → List ℕ
elements m code = filter (is_element code) (below m)
