-- What a checker of sharp texts answers.
use Rattle.std.specs.Prelude.{◌≡◌, Option, Some, None, Result, Ok, Err}
use Rattle.verdicts.specs.FirstFault.{Judgement, Confirmed, Faulty, TooLong}
use Rattle.sharp_verdicts.specs.declared.refusals.SharpRefusal.{SharpRefusal}
use Rattle.sharp_verdicts.specs.Right.{Pointed}
use Rattle.sharp_report.specs.declared.faults.SharpFault.{SharpFault}
use Rattle.sharp_report.specs.declared.faults.SharpFault.TheVariants.{Line as AtLine}

-- the fault, if there is one
abbrev pub sharp_told_of : Option SharpFault → Result (Unit {0}) SharpFault
sharp_told_of None = Ok tt
sharp_told_of (Some fault) = Err fault

-- what is answered of a sharp text that is not cut off
abbrev pub SharpConcludes : Judgement Pointed SharpRefusal → Result (Unit {0}) SharpFault → Type 0
SharpConcludes (Confirmed verdict) result = result ≡ Ok tt
SharpConcludes (Faulty line word) result = result ≡ Err (AtLine line word)
SharpConcludes TooLong result = ⊥
