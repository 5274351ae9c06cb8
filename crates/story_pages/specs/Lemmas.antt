-- Parts of a lemma on the page: what it claims, what it supposes, and what is known at its end.
use Rattle.std.specs.Prelude.{ℕ, ◌==◌, Bool, List, [], ◌++◌, codes, length, slice_get, Option, Some, None, if◌then◌else◌}
use Rattle.std.specs.Fmt.{decimal}
use Rattle.std.specs.List.{flat_map}
use Rattle.vocab.specs.declared.literals.Literal.{Literal}
use Rattle.vocab.specs.Literal.{opposite_of, profile_of}
use Rattle.vocab.specs.Size.{Extent}
use Rattle.meaning.specs.declared.stories.Lemma.{Lemma}
use Rattle.tellings.specs.declared.tellings.Placed.{Placed}
use Rattle.tellings.specs.declared.tellings.Telling.{Telling}
use Rattle.html.specs.Columns.{profile_columns_html}
use Rattle.html.specs.Facts.{fact_html}
use Rattle.html.specs.Grids.{grid_html, is_gridded}
use Rattle.story_pages.specs.Known.{known_html}

-- one of several things is claimed, or, where nothing is supposed, that there is no rule
abbrev pub many_claims : ℕ → List ℕ
many_claims count = if count == 0 then codes ": no rule satisfies these axioms" else codes ", one of these: "

-- how many things are claimed
abbrev pub claims_words : ℕ → List ℕ
claims_words count = if count == 1 then codes ": " else many_claims count

module _ (size : Extent) where
  -- a fact among others
  abbrev pub fact_item : Literal → List ℕ
  fact_item l = codes "<span>" ++ fact_html size l ++ codes "</span>"

  -- a claim: the opposite of a supposition
  abbrev pub opposite_html : Literal → List ℕ
  opposite_html l = fact_item (opposite_of l)

  -- what a lemma of a number claims: one of the opposites of its suppositions
  abbrev pub claimed_html : ℕ → List Literal → List ℕ
  claimed_html number suppose = codes "Claim " ++ decimal number ++ claims_words (length suppose) ++ flat_map opposite_html suppose

  -- one that supposes nothing: the last is the conclusion
  abbrev pub ending_html : Bool → ℕ → List Literal → List ℕ
  ending_html is_last number suppose = if is_last then codes "Conclusion" else claimed_html number suppose

  -- by itself
  abbrev pub title_html : Bool → ℕ → List Literal → List ℕ
  title_html is_last number suppose = if length suppose == 0 then ending_html is_last number suppose else claimed_html number suppose

  -- what it supposes
  abbrev pub supposed_html : List Literal → List ℕ
  supposed_html suppose = codes "<div class=e>Suppose not: " ++ flat_map fact_item suppose ++ codes ".</div>\n"

  abbrev pub suppose_html : List Literal → List ℕ
  suppose_html suppose = if length suppose == 0 then [] else supposed_html suppose

  -- the profile of the first supposition, as columns
  abbrev pub first_columns : Option Literal → List ℕ
  first_columns None = []
  first_columns (Some l) = profile_columns_html size (profile_of l)

  abbrev pub columns_of : List Literal → List ℕ
  columns_of suppose = first_columns (slice_get suppose 0)

  -- a table, if there are two voters: of more than six ballots it is folded, and of more than 24 there is none
  abbrev pub folded_table_html : (ℕ → List ℕ) → List ℕ
  folded_table_html cell = codes "<details class=k><summary>Table: what is known at each profile</summary><div>\n" ++ grid_html size cell ++ codes "</div></details>\n"

  abbrev pub wide_html : (ℕ → List ℕ) → List ℕ
  wide_html cell = if is_gridded size 25 then folded_table_html cell else []

  abbrev pub fitted_html : (ℕ → List ℕ) → List ℕ
  fitted_html cell = if is_gridded size 7 then grid_html size cell else wide_html cell

  -- what is known where
  abbrev pub table_html : List Placed → Lemma → Telling → List ℕ
  table_html forced lemma telling = fitted_html (known_html lemma.suppose forced telling.passage.steps)
