-- What a study asks, in lines.
use Rattle.std.specs.Prelude.{ℕ, ◌==◌, List, [], ◌++◌, length, slice_get, codes, decimal, if◌then◌else◌, Option, None, Some}
use Rattle.std.specs.List.{flat_map}
use Rattle.std.specs.Option.{option_map_or}
use Rattle.vocab.specs.declared.kinds.Sort.TheVariants.{Profile}
use Rattle.vocab.specs.Formula.{body_of}
use Rattle.vocab.specs.Limits.{instance_count, atom_count}
use Rattle.vocab.specs.Range.{below}
use Rattle.vocab.specs.Size.{Extent, sort_count}
use Rattle.vocab.specs.Study.{Question}
use Rattle.vocab.specs.Titled.{Titled}
use Rattle.meaning.specs.StudyClauses.{Sourced, study_clauses}
use Rattle.meaning.specs.Variables.{variable_count}
use Rattle.syntax.specs.Canonical.{canonical_text}
use Rattle.instance_text.specs.Bodies.{named_sentence}
use Rattle.report_text.specs.Pieces.{about_lines, lines_text}
use Rattle.search_logs.specs.Spent.{all_places}
use Rattle.verdicts.specs.Report.{own_version}
use Rattle.study_text.specs.declared.look.Look.{Look}
use Rattle.study_text.specs.declared.shares.Share.{Share}
use Rattle.study_text.specs.declared.shares.Share.TheVariants as share
use Rattle.study_text.specs.Shares.{all_shares, share_count, kept_of, kept_literal_count, share_limit, nearest}

-- ---- counts and limits

-- a number on a line of its own, after a word
abbrev pub number_line : List ℕ → ℕ → List ℕ
number_line word n = word ++ codes " " ++ decimal n ++ codes "\n"

-- what is counted
abbrev pub word_of : Share → List ℕ
word_of (share.Profiles count) = codes "profiles"
word_of (share.Instances name count) = codes "instances"
word_of (share.Body name count) = codes "body"
word_of (share.Work name count) = codes "work"
word_of (share.Clauses count) = codes "clauses"
word_of (share.Literals count) = codes "literals"

-- a count beside its limit
abbrev pub share_line : Share → List ℕ
share_line s = word_of s ++ codes " " ++ decimal (share_count s) ++ codes " of " ++ decimal (share_limit s) ++ codes "\n"

-- the axiom of a count, as a refusal names it
abbrev pub owner_text : Share → List ℕ
owner_text (share.Profiles count) = []
owner_text (share.Instances name count) = name ++ codes ": "
owner_text (share.Body name count) = name ++ codes ": "
owner_text (share.Work name count) = name ++ codes ": "
owner_text (share.Clauses count) = []
owner_text (share.Literals count) = []

-- the nearest limit
abbrev pub nearest_line : Option Share → List ℕ
nearest_line None = []
nearest_line (Some s) = codes "nearest " ++ owner_text s ++ share_line s

-- ---- axioms

-- how many clauses of an axiom are kept
abbrev pub kept_line : ℕ → List ℕ
kept_line count = if count == 0 then codes "asks nothing\n" else number_line (codes "clauses") count

-- the name of an axiom and its sentence
abbrev pub title_lines : Extent → Titled → List ℕ
title_lines size a = codes "axiom " ++ a.name ++ codes "\nsentence " ++ canonical_text (named_sentence size a.sentence) ++ codes "\n"

-- the lines of an axiom of which so many clauses are kept
abbrev pub axiom_lines : Extent → (count : ℕ) → Titled → List ℕ
axiom_lines size count a =
    title_lines size a
    ++ share_line (share.Instances a.name (instance_count size a.sentence))
    ++ share_line (share.Body a.name (atom_count size (body_of a.sentence)))
    ++ share_line (share.Work a.name (atom_count size a.sentence))
    ++ kept_line count

module _ (study : Question) (kept : List Sourced) where
  -- the lines of the axiom at a place
  abbrev pub lines_at : (place : ℕ) → List ℕ
  lines_at place = option_map_or (axiom_lines study.size (kept_of place kept)) (slice_get study.axioms place) []

  -- ---- the whole

  -- the lines after those of the axioms
  abbrev pub last_lines : List ℕ
  last_lines =
      share_line (share.Clauses (length kept))
      ++ share_line (share.Literals (kept_literal_count kept))
      ++ nearest_line (nearest (all_shares study kept))
      ++ codes "end\n"

  -- the lines after the head
  abbrev pub look_lines : List ℕ
  look_lines =
      share_line (share.Profiles (sort_count study.size Profile))
      ++ number_line (codes "variables") (variable_count study.size)
      ++ flat_map lines_at (below (length study.axioms))
      ++ last_lines

  -- the text of a look: what the study is, as in a report, and these lines
  abbrev pub look_of : List ℕ
  look_of = codes "bench study 1\n" ++ lines_text study (about_lines study (own_version study)) ++ look_lines

-- what a study asks, with the clauses that are kept of it
abbrev pub study_text : Question → List ℕ
study_text study = look_of study (study_clauses study.size study.axioms (all_places study))

-- the text of a look that was made
abbrev pub made_text : Question → Look → List ℕ
made_text study look = codes "bench study 1\n" ++ lines_text study (about_lines study (own_version study)) ++ look.lines
