-- Constants: the values of a size that have names of their own.
use Rattle.std.specs.Prelude.{ℕ, ◌+◌, ◌-◌, ◌%◌, ◌&&◌, nat_le, nat_lt, List, [], ◌∷◌, ◌++◌, codes, decimal, if◌then◌else◌, find, Option, Some, None}
use Rattle.std.specs.Str.{bytes_eq}
use Rattle.vocab.specs.declared.kinds.Sort.TheVariants.{Ballot}
use Rattle.vocab.specs.Size.{Extent, sort_count}
use Rattle.meaning.specs.Space.{below}
use Rattle.meaning.specs.Texts.{ballot_text}

-- `#` and a number; `@` and a letter, the first being a; a ballot's letters between `<` and `>`
abbrev pub voter_text : ℕ → List ℕ
voter_text i = codes "#" ++ decimal i

abbrev pub alternative_text : ℕ → List ℕ
alternative_text x = codes "@" ++ ((97 + x) % 256) ∷ []

abbrev pub ballot_constant_text : List ℕ → List ℕ
ballot_constant_text letters = codes "<" ++ letters ++ codes ">"

module _ (size : Extent) where
  -- the voter `#i`: voters are written from 1 and numbered from 0
  abbrev pub voter_value : ℕ → Option ℕ
  voter_value i = if nat_le 1 i && nat_le i size.voters then Some (i - 1) else None

  -- the alternative of a letter
  abbrev pub alternative_value : ℕ → Option ℕ
  alternative_value x = if nat_lt x size.alternatives then Some x else None

  -- the ballot whose text some letters are
  unfoldable pub ballot_value : List ℕ → Option ℕ
  ballot_value letters = find (λ b. bytes_eq letters (ballot_text size b)) (below (sort_count size Ballot))
