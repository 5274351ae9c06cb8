-- A number of workers that is read is from 1 to 16.
use Rattle.std.proofs.Common.{ℕ, List, Option, None, Some, IfSome, option_map}
use Rattle.std.specs.Prelude.{option_and_then, codes}
use Rattle.verdicts.specs.Numbers.{number_within}
use Rattle.verdicts.proofs.NumberLaws.{IsWithin, number_is_within}
use Rattle.clap.specs.Words.{Row, Text, first_of}
use Rattle.words.specs.Values.{workers_in}
use Rattle.words.specs.Words.{over_study}

abbrev pub IsFew : ℕ → Type 0
IsFew = IsWithin 1 16

pub few_in : (o : Option Text) → IfSome (option_and_then (number_within 1 16) o) IsFew
few_in None = tt
few_in (Some text) = number_is_within 1 16 text

-- what holds of all that is made of a study and such a number holds of what is read
pub few_over : {R : Type 0} (Holds : R → Type 0) (make : Text → ℕ → R) → ((study : Text) (n : ℕ) → IsFew n → Holds (make study n))
    → (rows : List Row) → IfSome (over_study make rows) Holds
few_over Holds make good rows = made (first_of (codes "study") rows) (workers_in rows) (few_in (first_of (codes "workers") rows))
  where
    made : (s : Option Text) (w : Option ℕ) → IfSome w IsFew → IfSome (option_and_then (λ study. option_map (make study) w) s) Holds
    made None w few = tt
    made (Some study) None few = tt
    made (Some study) (Some n) few = good study n few
