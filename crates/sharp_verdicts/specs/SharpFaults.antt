-- The fault of a line that the grammar has at its place. Of two faults of one line the first is named.
use Rattle.std.specs.Prelude.{ℕ, ◌+◌, ◌==◌, Bool, List, [], ◌∷◌, ◌++◌, length, slice_get, Option, Some, None, option_map, if◌then◌else◌}
use Rattle.std.specs.List.{list_all}
use Rattle.std.specs.Option.{option_or, option_map_or}
use Rattle.vocab.specs.declared.kinds.Sort.TheVariants.{Profile}
use Rattle.vocab.specs.Size.{sort_count}
use Rattle.vocab.specs.Study.{Question}
use Rattle.meaning.specs.declared.stories.Reason.{Reason}
use Rattle.verdicts.specs.declared.refusals.Refusal.TheVariants as refusal
use Rattle.verdicts.specs.Faults.{fault_of}
use Rattle.verdicts.specs.Lines.{Line, Row, name_at}
use Rattle.sharp_verdicts.specs.declared.instances.Cited.{Cited}
use Rattle.sharp_verdicts.specs.declared.refusals.SharpRefusal.{SharpRefusal}
use Rattle.sharp_verdicts.specs.declared.refusals.SharpRefusal.TheVariants.{Report, Instance}
use Rattle.sharp_verdicts.specs.Instances.{others_than, is_axiom_told, cites, instances_of, is_true_of}
use Rattle.sharp_verdicts.specs.SharpLines.{SharpLine, SharpTitle, Plain, InstancesAre, NeedsRule, NeedsOpen}
use Rattle.sharp_verdicts.specs.SharpPlaces.{SharpPlace, AtNeedRow, SharpStanding}

-- the refusal, unless a test passes
abbrev pub unless_of : Bool → SharpRefusal → Option SharpRefusal
unless_of passes word = if passes then None else Some word

module _ (study : Question) where
  -- the instances that the story cites, once it is read
  abbrev pub listed_instances : SharpStanding → List Cited
  listed_instances s = instances_of study s.told.earlier

  -- the instance whose mark comes next
  abbrev pub next_instance : SharpStanding → Option Cited
  next_instance s = slice_get (listed_instances s) (length s.marks)

  -- a reason does not cite the instance that comes next
  abbrev pub instance_fault : Option Cited → Reason → Option SharpRefusal
  instance_fault None r = Some Instance
  instance_fault (Some c) r = unless_of (cites study c r) Instance

  -- the first of some instances whose body is false of a table
  abbrev pub instances_fault : List ℕ → List Cited → Option SharpRefusal
  instances_fault table [] = None
  instances_fault table (c ∷ instances) =
      if is_true_of study table c then instances_fault table instances else Some (Report (refusal.Fails (name_at study.axioms c.«axiom») c.number))

  -- the others than the instance whose mark is being read
  abbrev pub others_asked : SharpStanding → List Cited
  others_asked s = option_map_or (others_than (listed_instances s)) (next_instance s) []

  -- a row that is not the next, and then what the whole table fails
  abbrev pub mark_row_fault : SharpStanding → ℕ → ℕ → Option SharpRefusal
  mark_row_fault s p o =
      option_or (unless_of (p == length s.rows) (Report refusal.Row))
      (if length s.rows + 1 == sort_count study.size Profile then instances_fault (s.rows ++ o ∷ []) (others_asked s) else None)

  -- what is wrong with a line of a report, at a place of a sharp text
  abbrev pub plain_fault : SharpPlace → SharpStanding → Line → Option SharpRefusal
  plain_fault AtNeedRow s (Row p o) = mark_row_fault s p o
  plain_fault place s line = option_map Report (fault_of study s.told line)

  -- what is wrong with a line
  abbrev pub sharp_fault : SharpStanding → SharpLine → Option SharpRefusal
  sharp_fault s SharpTitle = None
  sharp_fault s (Plain line) = plain_fault s.place s line
  sharp_fault s (InstancesAre n) =
      option_or (unless_of (list_all (is_axiom_told s.told.earlier) s.told.core) (Report refusal.Core)) (unless_of (n == length (listed_instances s)) Instance)
  sharp_fault s (NeedsRule r n) = option_or (instance_fault (next_instance s) r) (unless_of (n == sort_count study.size Profile) (Report refusal.Row))
  sharp_fault s (NeedsOpen r n) = option_or (instance_fault (next_instance s) r) (unless_of (n == study.conflicts) (Report refusal.OpenMark))
