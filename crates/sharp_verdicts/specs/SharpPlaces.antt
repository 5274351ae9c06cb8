-- Where a reader of a sharp text stands, and which line the grammar wants there. Up to the last lemma it reads as a reader of
-- the report does, after the first line of the report that is printed.
use Rattle.std.specs.Prelude.{ℕ, ◌-◌, Bool, true, false, nat_lt, List, [], length, take, drop, Option, Some, None, option_map, option_and_then, codes, if◌then◌else◌}
use Rattle.std.specs.Option.{option_or}
use Rattle.std.specs.Str.{bytes_eq}
use Rattle.vocab.specs.Study.{Question}
use Rattle.meaning.specs.declared.cores.Witness.{Witness}
use Rattle.meaning.specs.declared.stories.Reason.{Reason}
use Rattle.verdicts.specs.Lines.{Line, SaysPossible, End}
use Rattle.verdicts.specs.Numbers.{read_number}
use Rattle.verdicts.specs.Places.{Place, AtWitness, AtEnd, Standing, start}
use Rattle.verdicts.specs.Reading.{keyed, one_word, no_word, read_row, read_cited}
use Rattle.verdicts.specs.Texts.{words_of}
use Rattle.verdicts.specs.Judge.{read_line}
use Rattle.sharp_verdicts.specs.SharpLines.{SharpLine, SharpTitle, Plain, InstancesAre, NeedsRule, NeedsOpen}

-- a place of the grammar, by the line that is wanted next
pub data SharpPlace : Type 0 where
  AtSharp : SharpPlace
  AtReport : SharpPlace
  AtInstances : SharpPlace
  AtNeed : SharpPlace
  AtNeedRow : SharpPlace
  AtSharpEnd : SharpPlace
  AtSharpNothing : SharpPlace

-- what the lines so far have given: the place; what those of the report have given; the marks that are read; and the outcomes of the table that is being read
pub record SharpStanding : Type 0 where
  pub place : SharpPlace
  pub told : Standing
  pub marks : List Witness
  pub rows : List ℕ

-- nothing is read
abbrev pub sharp_start : SharpStanding
sharp_start = record { place = AtSharp; told = start; marks = []; rows = [] }

-- all lemmas are read
abbrev pub is_story_read : Place → Bool
is_story_read AtWitness = true
is_story_read (AtEnd verdict) = true
is_story_read _ = false

-- a line that a report may have there; a sharp text says of no rule that it is possible
abbrev pub not_possible : Option Line → Option SharpLine
not_possible None = None
not_possible (Some SaysPossible) = None
not_possible (Some line) = Some (Plain line)

-- `rule` or `open`, with a number, after the instance that a reason cites
abbrev pub read_mark : Reason → List (List ℕ) → Option SharpLine
read_mark r words =
    option_or (keyed (codes "rule") (one_word (λ w. option_map (NeedsRule r) (read_number w))) words)
    (keyed (codes "open") (one_word (λ w. option_map (NeedsOpen r) (read_number w))) words)

module _ (study : Question) where
  -- after `needs`: an axiom of the study with its values, and its mark in the last two words
  abbrev pub read_need : List (List ℕ) → Option SharpLine
  read_need words = option_and_then (λ r. read_mark r (drop (length words - 2) words)) (read_cited study (take (length words - 2) words))

  -- the line that the grammar wants at a place past the story, with what it says
  abbrev pub wanted_past : SharpPlace → List (List ℕ) → Option SharpLine
  wanted_past AtInstances words = keyed (codes "instances") (one_word (λ w. option_map InstancesAre (read_number w))) words
  wanted_past AtNeed words = keyed (codes "needs") read_need words
  wanted_past AtNeedRow words = option_map Plain (read_row study words)
  wanted_past AtSharpEnd words = option_map Plain (keyed (codes "end") (no_word End) words)
  wanted_past _ words = None

  -- the title of a sharp text, and no other line
  abbrev pub read_title : List ℕ → Option SharpLine
  read_title text = if bytes_eq text (codes "bench sharp 1") then Some SharpTitle else None

  -- the line at a place past the story, if it has at most 4,096 bytes
  abbrev pub read_past : SharpPlace → List ℕ → Option SharpLine
  read_past place text = if nat_lt 4096 (length text) then None else wanted_past place (words_of text)

  -- what a line says at a place, if it is the one that is wanted there
  abbrev pub read_sharp_at : SharpPlace → Standing → List ℕ → Option SharpLine
  read_sharp_at AtSharp told text = read_title text
  read_sharp_at AtReport told text = not_possible (read_line study told text)
  read_sharp_at place told text = read_past place text

  -- what a line says
  abbrev pub read_sharp_line : SharpStanding → List ℕ → Option SharpLine
  read_sharp_line s text = read_sharp_at s.place s.told text
