-- What a collector of a sharp verdict holds, and what it stands for.
use Rattle.std.specs.Prelude.{◌≡◌, ℕ, ◌+◌, Bool, true, false, List, Option, Some, None}
use Rattle.vocab.specs.Study.{Question}
use Rattle.sharp_verdicts.specs.declared.refusals.SharpRefusal.{SharpRefusal}
use Rattle.sharp_verdicts.specs.Right.{Pointed}
use Rattle.sharp_verdicts.specs.SharpFaults.{sharp_fault}
use Rattle.sharp_verdicts.specs.SharpJudge.{advance_sharp, sharp_line_fault, pointed_of}
use Rattle.sharp_verdicts.specs.SharpLines.{SharpLine}
use Rattle.sharp_verdicts.specs.SharpPlaces.{SharpPlace, AtSharpNothing, SharpStanding, read_sharp_line}
use Rattle.sharp_report.specs.declared.places.SharpPlace.{SharpPlace as HeldPlace}
use Rattle.sharp_report.specs.declared.places.SharpPlace.TheVariants as place
use Rattle.sharp_report.specs.SharpStands.{SharpStands, IsReadWithin}
use Rattle.verdict_reading.specs.declared.sharp_collector.SharpCollector.{SharpCollector}
use Rattle.verdict_reading.specs.declared.sharp_verdict.SharpVerdict.{SharpVerdict}
use Rattle.verdict_reading.specs.Parts.{sharp_parts_of}

-- what a sharp text says, as it is read
abbrev pub as_read : Pointed → SharpVerdict
as_read v = record { core = v.core; story = v.story; instances = v.instances; marks = v.marks }

-- and back: what is read says that
abbrev pub as_said : SharpVerdict → Pointed
as_said v = record { core = v.core; story = v.story; instances = v.instances; marks = v.marks }

-- what is held is what the lines so far have given
pub record SharpCollects (study : Question) (c : SharpCollector) (s : SharpStanding) : Type 0 where
  pub told : SharpStands study c.told s
  pub parts : c.parts ≡ sharp_parts_of s

-- a line of this text is collected: where it has no fault, its part is held with what was held; else its refusal is told
abbrev pub IsSharpCollected : Question → SharpStanding → List ℕ → SharpCollector → Option SharpRefusal → Type 0
IsSharpCollected study s text c None = (line : SharpLine) × (read_sharp_line study s text ≡ Some line) ×
    (sharp_fault study s line ≡ None) × SharpCollects study c (advance_sharp study s line) ×
    ((count : ℕ) → IsReadWithin study count s → IsReadWithin study (count + 1) (advance_sharp study s line))
IsSharpCollected study s text c (Some word) = sharp_line_fault study s text ≡ Some word

-- all lines are read
abbrev pub is_at_end : HeldPlace → Bool
is_at_end place.AtSharpNothing = true
is_at_end _ = false

-- the sharp verdict that is read, once all lines are
abbrev pub sharp_verdict_at : Question → SharpPlace → SharpStanding → Option SharpVerdict
sharp_verdict_at study AtSharpNothing s = Some (as_read (pointed_of study s))
sharp_verdict_at study _ s = None
