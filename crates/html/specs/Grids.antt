-- Tables for two voters: a row for each ballot of the first, and a column for each of the second.
use Rattle.std.specs.Prelude.{ℕ, ◌+◌, ◌*◌, nat_lt, ◌==◌, Bool, not, ◌&&◌, List, ◌++◌, codes}
use Rattle.std.specs.List.{flat_map}
use Rattle.vocab.specs.declared.kinds.Sort.TheVariants.{Ballot}
use Rattle.vocab.specs.Range.{below}
use Rattle.vocab.specs.Size.{Extent, sort_count}
use Rattle.html.specs.Facts.{ballot_html}

module _ (size : Extent) where
  -- there are two voters, who are both there, and not too many ballots
  abbrev pub is_gridded : ℕ → Bool
  is_gridded most = size.voters == 2 && not size.absent && nat_lt (sort_count size Ballot) most

  -- a ballot as the head of a row or a column
  abbrev pub head_html : ℕ → List ℕ
  head_html b = codes "<th>" ++ ballot_html size b ++ codes "</th>"

  module _ (cell : ℕ → List ℕ) where
    -- a cell
    abbrev pub cell_html : ℕ → ℕ → List ℕ
    cell_html b c = codes "<td>" ++ cell (b * sort_count size Ballot + c) ++ codes "</td>"

    -- a row
    abbrev pub row_html : ℕ → List ℕ
    row_html b = codes "<tr>" ++ head_html b ++ flat_map (cell_html b) (below (sort_count size Ballot)) ++ codes "</tr>\n"

    -- a table whose cells are these
    abbrev pub grid_html : List ℕ
    grid_html = codes "<table class=g>\n<tr><td></td>" ++ flat_map head_html (below (sort_count size Ballot)) ++ codes "</tr>\n" ++ flat_map row_html (below (sort_count size Ballot)) ++ codes "</table>\n"
