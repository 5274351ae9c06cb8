-- The first faulty line of a sharp text, or the sharp verdict that is confirmed.
use Rattle.std.specs.Prelude.{ℕ, ◌==◌, List, [], ◌∷◌, ◌++◌, length, Option, Some, if◌then◌else◌}
use Rattle.std.specs.Option.{option_map_or}
use Rattle.vocab.specs.declared.kinds.Sort.TheVariants.{Profile}
use Rattle.vocab.specs.Size.{sort_count}
use Rattle.vocab.specs.Study.{Question}
use Rattle.meaning.specs.declared.cores.Witness.TheVariants.{Rule, Open}
use Rattle.verdicts.specs.declared.refusals.Refusal.TheVariants as refusal
use Rattle.verdicts.specs.Lines.{Line, Title, Row, End}
use Rattle.verdicts.specs.FirstFault.{Told, judge_lines, Judgement, Confirmed, Faulty, concluded}
use Rattle.verdicts.specs.Judge.{advance, answered, answered_within}
use Rattle.verdicts.specs.Report.{own_version}
use Rattle.sharp_verdicts.specs.declared.refusals.SharpRefusal.{SharpRefusal}
use Rattle.sharp_verdicts.specs.declared.refusals.SharpRefusal.TheVariants.{Report}
use Rattle.sharp_verdicts.specs.Right.{Pointed}
use Rattle.sharp_verdicts.specs.SharpLines.{SharpLine, SharpTitle, Plain, InstancesAre, NeedsRule, NeedsOpen}
use Rattle.sharp_verdicts.specs.SharpPlaces.{SharpPlace, AtReport, AtInstances, AtNeed, AtNeedRow, AtSharpEnd, AtSharpNothing, SharpStanding, sharp_start, is_story_read, read_sharp_line}
use Rattle.sharp_verdicts.specs.SharpFaults.{listed_instances, sharp_fault}

module _ (study : Question) where
  -- ---- where the reader stands after a line

  -- at the next mark, or at the end
  abbrev pub after_mark : SharpStanding → SharpStanding
  after_mark s = record s { place = if length s.marks == length (listed_instances study s) then AtSharpEnd else AtNeed; rows = [] }

  -- after a row of a mark: the table is whole, or another row comes
  abbrev pub after_mark_row : SharpStanding → SharpStanding
  after_mark_row s = if length s.rows == sort_count study.size Profile then after_mark (record s { marks = s.marks ++ Rule s.rows ∷ [] }) else s

  -- after a line of the report: all lemmas are read, or another line comes
  abbrev pub after_report : SharpStanding → SharpStanding
  after_report s = record s { place = if is_story_read s.told.place then AtInstances else AtReport }

  -- after a line that a report may have too
  abbrev pub advance_plain : SharpPlace → SharpStanding → Line → SharpStanding
  advance_plain AtNeedRow s (Row p o) = after_mark_row (record s { rows = s.rows ++ o ∷ [] })
  advance_plain AtSharpEnd s End = record s { place = AtSharpNothing }
  advance_plain place s line = after_report (record s { told = advance study s.told line })

  -- after a line; the title counts as that of the report that is printed
  abbrev pub advance_sharp : SharpStanding → SharpLine → SharpStanding
  advance_sharp s SharpTitle = after_report (record s { told = advance study s.told (Title (own_version study)) })
  advance_sharp s (Plain line) = advance_plain s.place s line
  advance_sharp s (InstancesAre n) = after_mark s
  advance_sharp s (NeedsRule r n) = record s { place = AtNeedRow }
  advance_sharp s (NeedsOpen r n) = after_mark (record s { marks = s.marks ++ Open n ∷ [] })

-- ---- line by line

module _ (study : Question) where
  -- the refusal of a line, if it has one
  abbrev pub sharp_line_fault : SharpStanding → List ℕ → Option SharpRefusal
  sharp_line_fault s text = option_map_or (sharp_fault study s) (read_sharp_line study s text) (Some (Report refusal.Form))

  -- where the reader stands after a line: at the same place where it says nothing
  abbrev pub sharp_after : SharpStanding → List ℕ → SharpStanding
  sharp_after s text = option_map_or (advance_sharp study s) (read_sharp_line study s text) s

  -- lines from where the reader stands, the first of this number
  abbrev pub sharp_judge_from : ℕ → SharpStanding → List (List ℕ) → Told SharpStanding SharpRefusal
  sharp_judge_from = judge_lines sharp_line_fault sharp_after

  -- all lines
  abbrev pub sharp_judge : List (List ℕ) → Told SharpStanding SharpRefusal
  sharp_judge texts = sharp_judge_from 1 sharp_start texts

  -- what is confirmed where all is read
  abbrev pub pointed_of : SharpStanding → Pointed
  pointed_of s = record { core = s.told.core; story = s.told.earlier; instances = listed_instances study s; marks = s.marks }

-- ---- a whole text

module _ (study : Question) where
  -- where no line is faulty: the end must be read, and no byte may follow it
  abbrev pub at_sharp_end : ℕ → List ℕ → SharpPlace → SharpStanding → Judgement Pointed SharpRefusal
  at_sharp_end n [] AtSharpNothing s = Confirmed (pointed_of study s)
  at_sharp_end n rest place s = Faulty n (Report refusal.Form)

  -- with the number of the last piece, and the piece
  abbrev pub sharp_conclude : ℕ → List ℕ → Told SharpStanding SharpRefusal → Judgement Pointed SharpRefusal
  sharp_conclude = concluded (λ n rest s. at_sharp_end n rest s.place s)

  -- the answer to a text
  abbrev pub sharp_answer : List ℕ → Judgement Pointed SharpRefusal
  sharp_answer = answered sharp_conclude (sharp_judge study)

-- the answer to a text of which so many bytes are read
abbrev pub sharp_answer_within : ℕ → Question → List ℕ → Judgement Pointed SharpRefusal
sharp_answer_within limit study = answered_within (sharp_conclude study) (sharp_judge study) limit
