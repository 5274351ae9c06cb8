-- What a collector of a verdict holds, and what it stands for.
use Rattle.std.specs.Prelude.{◌≡◌, ℕ, List, Option, Some, None}
use Rattle.vocab.specs.Study.{Question}
use Rattle.verdicts.specs.declared.refusals.Refusal.{Refusal}
use Rattle.verdicts.specs.declared.verdicts.Confirmed.{Confirmed}
use Rattle.verdicts.specs.declared.verdicts.Verdict.{Verdict}
use Rattle.verdicts.specs.declared.verdicts.Verdict.TheVariants.{Possible, Impossible, Undecided}
use Rattle.verdicts.specs.Lines.{Line}
use Rattle.verdicts.specs.Places.{Place, Standing, AtLimit, AtEnd, AtNothing}
use Rattle.verdicts.specs.Faults.{fault_of}
use Rattle.verdicts.specs.Judge.{advance, read_line, line_fault}
use Rattle.report_lines.specs.declared.places.Place.{Place as HeldPlace}
use Rattle.report_lines.specs.declared.places.Place.TheVariants as place
use Rattle.report.specs.Stands.{Stands}
use Rattle.verdict_reading.specs.declared.collector.Collector.{Collector}
use Rattle.verdict_reading.specs.Parts.{parts_of}

-- a verdict is made of what the lines have given
abbrev pub IsMadeOf : Verdict → Standing → Type 0
IsMadeOf (Possible table) s = table ≡ s.rows
IsMadeOf (Impossible core story witnesses) s = (core ≡ s.core) × (story ≡ s.earlier) × (witnesses ≡ s.witnesses)
IsMadeOf Undecided s = ⊥

-- so is the one that is read, once one is; and a report that claims nothing is read no further than to its verdict
abbrev pub EndsAt : Place → Standing → Type 0
EndsAt AtLimit s = ⊥
EndsAt (AtEnd verdict) s = IsMadeOf verdict s
EndsAt (AtNothing verdict) s = IsMadeOf verdict s
EndsAt _ s = Unit {0}

-- what is held is what the lines so far have given
pub record Collects (study : Question) (c : Collector) (s : Standing) : Type 0 where
  pub told : Stands study c.told s
  pub parts : c.parts ≡ parts_of s
  pub ends : EndsAt s.place s

-- a line of this text is collected: where it has no fault, its part is held with what was held; else its refusal is told
abbrev pub IsCollected : Question → Standing → List ℕ → Collector → Option Refusal → Type 0
IsCollected study s text c None = (line : Line) × (read_line study s text ≡ Some line) ×
    (fault_of study s line ≡ None) × Collects study c (advance study s line)
IsCollected study s text c (Some word) = line_fault study s text ≡ Some word

-- what is claimed, once all lines of the report are read
abbrev pub claim_at : HeldPlace → Option Confirmed
claim_at (place.AtNothing claim) = claim
claim_at _ = None

-- the verdict that is read, once all lines of the report are
abbrev pub verdict_at : Place → Option Verdict
verdict_at (AtNothing verdict) = Some verdict
verdict_at _ = None
