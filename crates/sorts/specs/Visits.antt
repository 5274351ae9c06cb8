-- What a visit of a part of a sentence answers.
use Rattle.std.specs.Prelude.{◌≡◌, ◌≢◌, List, [], ◌∷◌, Result, MatchResult}
use Rattle.sorts.specs.declared.faults.SortFault.{SortFault}
use Rattle.sorts.specs.declared.faults.SortFault.TheVariants.{NoMemory}

-- it is the first of some faults
abbrev pub IsFirst : SortFault → List SortFault → Type 0
IsFirst wrong [] = ⊥
IsFirst wrong (first ∷ later) = wrong ≡ first

-- where the part has no faults, something of which a fact holds, and else the first of them; want of memory may come at any time
abbrev pub IsVisit : {A : Type 0} → List SortFault → (A → Type 0) → Result A SortFault → Type 0
IsVisit faults IsRight result = MatchResult result (λ found. (faults ≡ []) × IsRight found) (λ wrong. wrong ≢ NoMemory → IsFirst wrong faults)
