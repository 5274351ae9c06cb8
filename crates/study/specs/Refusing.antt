-- Steps of which each may refuse.
use Rattle.std.specs.Prelude.{◌≡◌, ◌≢◌, Result, Ok, Err}
use Rattle.study.specs.declared.faults.StudyFault.{StudyFault}
use Rattle.study.specs.declared.faults.StudyFault.TheVariants as fault

-- a step after another, where that did not refuse
abbrev pub and_then : {A B E : Type 0} → (A → Result B E) → Result A E → Result B E
and_then f (Ok x) = f x
and_then f (Err e) = Err e

infixl 10 ◌>>=◌
abbrev pub ◌>>=◌ : {A B E : Type 0} → Result A E → (A → Result B E) → Result B E
r >>= f = and_then f r

-- the same refusal in other words
abbrev pub refused_as : {A E F : Type 0} → (E → F) → Result A E → Result A F
refused_as f (Ok x) = Ok x
refused_as f (Err e) = Err (f e)

-- a step was answered as it should be, if not by want of memory
abbrev pub Gives : {A : Type 0} → Result A StudyFault → Result A StudyFault → Type 0
Gives right (Ok x) = right ≡ Ok x
Gives right (Err e) = e ≢ fault.NoMemory → right ≡ Err e
