-- Rules as tables and as lists.
use Rattle.std.specs.Prelude.{ℕ, nat_lt, List, ◌++◌, codes, if◌then◌else◌}
use Rattle.vocab.specs.declared.kinds.Sort.TheVariants.{Profile}
use Rattle.vocab.specs.Size.{Extent, sort_count}
use Rattle.html.specs.Grids.{grid_html, is_gridded}
use Rattle.rule_pages.specs.Entries.{ruled_html, rule_list_html}

module _ (size : Extent) where
  -- a table for two voters, and else a list
  abbrev pub shown_html : List ℕ → List ℕ
  shown_html table = if is_gridded size 25 then grid_html size (ruled_html size table) else rule_list_html size table

  -- a table or a list that stands closed, to be opened
  abbrev pub folded_html : List ℕ → List ℕ
  folded_html table = codes "<details><summary>profile by profile</summary>\n" ++ shown_html table ++ codes "</details>\n"

  -- a rule: of more than a hundred profiles it stands closed
  abbrev pub rule_html : List ℕ → List ℕ
  rule_html table = if nat_lt 100 (sort_count size Profile) then folded_html table else shown_html table
