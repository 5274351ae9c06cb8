-- Why a proof is refused.
use Rattle.std.specs.Prelude.{◌≡◌, ℕ, Option, Some}
use Rattle.cnf.specs.declared.derivations.LineFault.{LineFault}
use Rattle.adopt.specs.declared.adopting.AdoptFault.{AdoptFault}
use Rattle.adopt.specs.declared.adopting.AdoptFault.TheVariants.{Proof, NoMemory}

-- the fault is that of the first faulty line; want of memory may come in place of any answer
abbrev pub IsAdoptFault : AdoptFault → Option (ℕ × LineFault) → Type 0
IsAdoptFault (Proof at fault) wanted = wanted ≡ Some (at, fault)
IsAdoptFault NoMemory wanted = Unit {0}
