-- What a checker of sharp texts holds, and what it stands for.
use Rattle.std.specs.Prelude.{◌≡◌, ℕ, ◌+◌, ◌<◌, ◌≤◌, ◌⊎◌, Bool, true, false, List, [], length, codes, Option, Some, None, Result, Ok, Err, IsTrue, if◌then◌else◌}
use Rattle.vocab.specs.declared.kinds.Sort.TheVariants.{Profile}
use Rattle.vocab.specs.Size.{is_full, sort_count}
use Rattle.vocab.specs.Study.{Question}
use Rattle.meaning.specs.Truth.{is_rule}
use Rattle.verdicts.specs.Places.{Place, AtKind, AtVoters, AtAlternatives, AtBallots, AtAbsent, AtAxioms, AtVerdict, AtCore, AtLemmas, AtLemma, AtSuppose, AtStep, start}
use Rattle.verdicts.specs.FirstFault.{Told, Good, Refused}
use Rattle.verdicts.specs.Judge.{judge}
use Rattle.report_lines.specs.Held.{held_line}
use Rattle.report.specs.Stands.{Stands}
use Rattle.report.specs.Taken.{AreOutcomes}
use Rattle.sharp_verdicts.specs.declared.refusals.SharpRefusal.{SharpRefusal}
use Rattle.sharp_verdicts.specs.SharpFaults.{listed_instances, sharp_fault, instances_fault, others_asked}
use Rattle.sharp_verdicts.specs.SharpJudge.{after_mark_row, advance_sharp, sharp_line_fault, sharp_judge}
use Rattle.sharp_verdicts.specs.SharpLines.{SharpLine, SharpTitle, Plain, InstancesAre, NeedsRule, NeedsOpen}
use Rattle.sharp_verdicts.specs.SharpPlaces.{SharpPlace, AtSharp, AtReport, AtInstances, AtNeed, AtNeedRow, AtSharpEnd, AtSharpNothing, SharpStanding, read_sharp_line}
use Rattle.sharp_report.specs.declared.faults.SharpFault.{SharpFault}
use Rattle.sharp_report.specs.declared.faults.SharpFault.TheVariants.{Line as AtLine, NoMemory}
use Rattle.sharp_report.specs.declared.judging.SharpJudging.{SharpJudging}
use Rattle.sharp_report.specs.declared.places.SharpPlace.{SharpPlace as HeldPlace}
use Rattle.sharp_report.specs.declared.places.SharpPlace.TheVariants as place
use Rattle.sharp_report.specs.declared.lines.SharpLine.{SharpLine as HeldLine}
use Rattle.sharp_report.specs.declared.lines.SharpLine.TheVariants as held
use Rattle.sharp_report.specs.declared.progress.SharpProgress.{SharpProgress}
use Rattle.sharp_report.specs.Cited.{Cites}

-- a place, as it is held
abbrev pub held_sharp_place : SharpPlace → HeldPlace
held_sharp_place AtSharp = place.AtSharp
held_sharp_place AtReport = place.AtReport
held_sharp_place AtInstances = place.AtInstances
held_sharp_place AtNeed = place.AtNeed
held_sharp_place AtNeedRow = place.AtNeedRow
held_sharp_place AtSharpEnd = place.AtSharpEnd
held_sharp_place AtSharpNothing = place.AtSharpNothing

-- what a line says, as it is held
abbrev pub held_sharp_line : Question → SharpLine → HeldLine
held_sharp_line study SharpTitle = held.Title
held_sharp_line study (Plain line) = held.Plain (held_line study line)
held_sharp_line study (InstancesAre n) = held.InstancesAre
held_sharp_line study (NeedsRule r n) = held.NeedsRule
held_sharp_line study (NeedsOpen r n) = held.NeedsOpen

-- what a line says that has no fault, or its refusal
abbrev pub told_unless : Option SharpRefusal → HeldLine → Result HeldLine SharpRefusal
told_unless None line = Ok line
told_unless (Some word) line = Err word

-- the title of a report of the version that is printed
abbrev pub own_title : Question → List ℕ
own_title study = if is_full study.size then codes "bench report 1" else codes "bench report 2"

-- a place of a report past its title at which its story is not yet read, and no rule is
abbrev pub is_before_story : Place → Bool
is_before_story AtKind = true
is_before_story AtVoters = true
is_before_story AtAlternatives = true
is_before_story AtBallots = true
is_before_story AtAbsent = true
is_before_story AtAxioms = true
is_before_story AtVerdict = true
is_before_story AtCore = true
is_before_story AtLemmas = true
is_before_story AtLemma = true
is_before_story AtSuppose = true
is_before_story AtStep = true
is_before_story _ = false

module _ (study : Question) where
  -- what is held of the instances at a place: up to the end of the story the numbers of those that it cites, and from then on these instances; at the rows of a mark one is still due, and the rows are outcomes
  abbrev pub HoldsAt : SharpPlace → SharpJudging → SharpStanding → Type 0
  HoldsAt AtSharp r s = (s.told ≡ start) × (r.cited.items ≡ [])
  HoldsAt AtReport r s = IsTrue (is_before_story s.told.place) × Cites study r.cited.items s.told.earlier s.told.steps
  HoldsAt AtInstances r s = Cites study r.cited.items s.told.earlier []
  HoldsAt AtNeed r s = (r.instances ≡ listed_instances study s) × (s.rows ≡ [])
  HoldsAt AtNeedRow r s = (r.instances ≡ listed_instances study s) × (length s.marks < length (listed_instances study s)) × AreOutcomes study.size s.rows
  HoldsAt AtSharpEnd r s = r.instances ≡ listed_instances study s
  HoldsAt AtSharpNothing r s = r.instances ≡ listed_instances study s

  -- what is held is what the lines so far have given
  pub record SharpStands (r : SharpJudging) (s : SharpStanding) : Type 0 where
    pub place : r.place ≡ held_sharp_place s.place
    pub told : Stands study r.told s.told
    pub marks : r.marks ≡ length s.marks
    pub rows : r.rows ≡ s.rows
    pub at : HoldsAt s.place r s

  -- the same after a mark, or before the first one, where the place is still to be told
  pub record HasMarks (r : SharpJudging) (s : SharpStanding) : Type 0 where
    pub told : Stands study r.told s.told
    pub marks : r.marks ≡ length s.marks
    pub instances : r.instances ≡ listed_instances study s

  -- what the lines of the report have given is what at most so many lines of a report give
  pub record IsReadWithin (count : ℕ) (s : SharpStanding) : Type 0 where
    pub lines : List (List ℕ)
    pub few : length lines ≤ count
    pub good : judge study lines ≡ Good s.told

  -- some lines without a fault have given what is held, and one more line has a number
  pub record IsSharpRead (r : SharpJudging) : Type 0 where
    pub count : ℕ
    pub few : count < 4294967295
    pub standing : SharpStanding
    pub stands : SharpStands r standing
    pub read : IsReadWithin count standing

  -- the table of a mark has all its rows, and the mark is still due
  pub record HasMarkTable (r : SharpJudging) : Type 0 where
    pub rule : IsTrue (is_rule study.size r.rows)
    pub standing : SharpStanding
    pub instances : r.instances ≡ listed_instances study standing

  -- the fault of a line is answered, and where it has none its part is held with what was held
  abbrev pub SharpTook : SharpStanding → SharpLine → SharpJudging → Option SharpRefusal → Type 0
  SharpTook s line r fault = (fault ≡ sharp_fault study s line) × (fault ≡ None → SharpStands r (advance_sharp study s line))

  -- the same of a table whose last row is read
  abbrev pub TakesMark : SharpStanding → SharpJudging → Option SharpRefusal → Type 0
  TakesMark s r fault = (fault ≡ instances_fault study s.rows (others_asked study s)) ×
      (length s.rows ≡ sort_count study.size Profile → fault ≡ None → SharpStands r (after_mark_row study s))

  -- a line of this text is taken: where it has no fault, it is told what it says, and its part is held with what was held; else its refusal is told
  abbrev pub IsSharpTaken : SharpStanding → List ℕ → SharpJudging → Result HeldLine SharpRefusal → Type 0
  IsSharpTaken s text r (Ok said) = (line : SharpLine) × (read_sharp_line study s text ≡ Some line) ×
      (said ≡ held_sharp_line study line) × (sharp_fault study s line ≡ None) × SharpStands r (advance_sharp study s line) ×
      ((count : ℕ) → IsReadWithin count s → IsReadWithin (count + 1) (advance_sharp study s line))
  IsSharpTaken s text r (Err word) = sharp_line_fault study s text ≡ Some word

  -- what is held after so many lines of which none is faulty, and after the first faulty one
  abbrev pub SharpStandsAs : ℕ → Option SharpFault → SharpJudging → Told SharpStanding SharpRefusal → Type 0
  SharpStandsAs count fault r (Good s) = (fault ≡ None) × SharpStands r s × IsReadWithin count s
  SharpStandsAs count fault r (Refused line word) = fault ≡ Some (AtLine line word)

  -- a checker that is so far stands for these lines
  abbrev pub SharpStandsFor : SharpProgress → List (List ℕ) → Type 0
  SharpStandsFor p lines = (p.lines ≡ length lines) × SharpStandsAs (length lines) p.fault p.judging (sharp_judge study lines)

  -- it stands for some lines, unless memory was wanting
  abbrev pub IsSharpReady : SharpProgress → Type 0
  IsSharpReady p = (p.fault ≡ Some NoMemory) ⊎ ((lines : List (List ℕ)) × SharpStandsFor p lines)
