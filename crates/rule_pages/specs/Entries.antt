-- Rules as lists of their profiles, folded by what the first voter casts.
use Rattle.std.specs.Prelude.{ℕ, ◌==◌, nat_lt, List, [], ◌++◌, codes, slice_get, slice_index, Option, Some, None, if◌then◌else◌}
use Rattle.std.specs.List.{flat_map}
use Rattle.vocab.specs.declared.kinds.Sort.TheVariants.{Ballot, Profile}
use Rattle.vocab.specs.Range.{below}
use Rattle.vocab.specs.Size.{Extent, sort_count, cast_count}
use Rattle.meaning.specs.Space.{casts_of}
use Rattle.html.specs.Facts.{ballot_html, outcome_html, profile_html}

module _ (size : Extent) where
  -- the outcome of a rule at a profile
  abbrev pub known_outcome_html : Option ℕ → List ℕ
  known_outcome_html None = []
  known_outcome_html (Some o) = outcome_html size o

  abbrev pub ruled_html : List ℕ → ℕ → List ℕ
  ruled_html table p = known_outcome_html (slice_get table p)

  -- a profile with the outcome
  abbrev pub entry_html : List ℕ → ℕ → List ℕ
  entry_html table p = codes "<li>" ++ profile_html size p ++ codes " " ++ ruled_html table p ++ codes "</li>\n"

  -- a ballot, or a dash for absence
  abbrev pub cast_html : ℕ → List ℕ
  cast_html c = if nat_lt c (sort_count size Ballot) then ballot_html size c else codes "-"

  -- the profiles at which the first voter casts this, each with the outcome
  abbrev pub entry_under : List ℕ → (c p : ℕ) → List ℕ
  entry_under table c p = if slice_index (casts_of size p) 0 == c then entry_html table p else []

  -- of more than a hundred profiles they stand closed
  abbrev pub fold_start : List ℕ
  fold_start = if nat_lt 100 (sort_count size Profile) then codes "<details>" else codes "<details open>"

  abbrev pub fold_html : List ℕ → ℕ → List ℕ
  fold_html table c = fold_start ++ codes "<summary>voter 1: " ++ cast_html c ++ codes "</summary><ul class=l>\n" ++ flat_map (entry_under table c) (below (sort_count size Profile)) ++ codes "</ul></details>\n"

  -- a rule as a list
  abbrev pub rule_list_html : List ℕ → List ℕ
  rule_list_html table = flat_map (fold_html table) (below (cast_count size))
