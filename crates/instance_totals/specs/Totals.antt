-- The refusal of a study whose frames and instances together pass the limits of a list of clauses.
use Rattle.std.specs.Prelude.{◌≡◌, IsTrue}
use Rattle.vocab.specs.Study.{Question}
use Rattle.sharp_verdicts.specs.Totals.{passes_clause_limits, total}
use Rattle.instance_totals.specs.declared.totals.TotalFault.{TotalFault}
use Rattle.instance_totals.specs.declared.totals.TotalFault.TheVariants.{Over, NoMemory}

-- a refusal has that total, which passes a limit; want of memory may come in place of any
abbrev pub IsTotalFault : Question → TotalFault → Type 0
IsTotalFault study (Over counts) = (counts ≡ total study) × IsTrue (passes_clause_limits counts)
IsTotalFault study NoMemory = Unit {0}
