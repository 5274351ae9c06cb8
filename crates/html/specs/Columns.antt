-- Profiles as columns of ballots: a column for each voter, with the voter's number on top, and then the best alternative first.
use Rattle.std.specs.Prelude.{ℕ, ◌+◌, nat_lt, List, [], ◌∷◌, ◌++◌, codes, slice_get, slice_index, Option, Some, None, if◌then◌else◌}
use Rattle.std.specs.Fmt.{decimal}
use Rattle.std.specs.List.{flat_map}
use Rattle.vocab.specs.declared.kinds.Sort.TheVariants.{Profile, Ballot}
use Rattle.vocab.specs.Range.{below}
use Rattle.vocab.specs.Size.{Extent, sort_count}
use Rattle.meaning.specs.Space.{casts_of}
use Rattle.meaning.specs.Texts.{ballot_text}

-- a byte, if there is one
abbrev pub byte_html : Option ℕ → List ℕ
byte_html None = []
byte_html (Some byte) = byte ∷ []

-- the number of a voter
abbrev pub voter_html : ℕ → List ℕ
voter_html i = codes "<th>" ++ decimal (i + 1) ++ codes "</th>"

module _ (size : Extent) where
  -- the letter at a place of a cast; of absence a dash
  abbrev pub letter_html : ℕ → ℕ → List ℕ
  letter_html k c = if nat_lt c (sort_count size Ballot) then byte_html (slice_get (ballot_text size c) k) else codes "-"

  -- the letter at a place of a voter's cast
  abbrev pub spot_html : ℕ → ℕ → ℕ → List ℕ
  spot_html p k i = codes "<td>" ++ letter_html k (slice_index (casts_of size p) i) ++ codes "</td>"

  -- the letters at a place of all casts
  abbrev pub rank_html : ℕ → ℕ → List ℕ
  rank_html p k = codes "<tr>" ++ flat_map (spot_html p k) (below size.voters) ++ codes "</tr>"

  -- the columns of a profile
  abbrev pub columns_html : ℕ → List ℕ
  columns_html p = codes "<table class=p><tr>" ++ flat_map voter_html (below size.voters) ++ codes "</tr>" ++ flat_map (rank_html p) (below size.alternatives) ++ codes "</table>"

  -- a profile as columns, if it is one of the size
  abbrev pub profile_columns_html : ℕ → List ℕ
  profile_columns_html p = if nat_lt p (sort_count size Profile) then columns_html p else []
