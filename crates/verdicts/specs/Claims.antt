-- What is claimed of the rules of a study's size, and when a text shows it.
use Rattle.std.specs.Prelude.{◌≡◌, ℕ, List, length, Option, Some, None, IsTrue}
use Rattle.vocab.specs.Study.{Question}
use Rattle.meaning.specs.Space.{below}
use Rattle.meaning.specs.Truth.{satisfies}
use Rattle.meaning.specs.Cores.{is_core_from}
use Rattle.verdicts.specs.declared.verdicts.Confirmed.{Confirmed}
use Rattle.verdicts.specs.declared.verdicts.Confirmed.TheVariants as claim
use Rattle.verdicts.specs.declared.verdicts.Verdict.{Verdict}
use Rattle.verdicts.specs.declared.verdicts.Verdict.TheVariants.{Possible, Impossible, Undecided}
use Rattle.verdicts.specs.Report.{IsReport}

-- a rule satisfies all axioms of a study
abbrev pub IsRuleFor : Question → List ℕ → Type 0
IsRuleFor study table = IsTrue (satisfies study.size study.axioms (below (length study.axioms)) table)

-- no rule satisfies the axioms of a core
abbrev pub HasNoRule : Question → List ℕ → Type 0
HasNoRule study core = (table : List ℕ) → ¬ IsTrue (satisfies study.size study.axioms core table)

-- what a verdict claims is so: this rule satisfies all axioms, or none satisfies those of the core. (`Report.is_claim` is not the test of it)
abbrev pub Claims : Question → Verdict → Type 0
Claims study (Possible table) = IsRuleFor study table
Claims study (Impossible core story witnesses) = HasNoRule study core
Claims study Undecided = ⊥

-- ---- which of the two it is

-- the claim of a verdict; undecided claims nothing
abbrev pub claim_of : Verdict → Option Confirmed
claim_of (Possible table) = Some claim.Possible
claim_of (Impossible core story witnesses) = Some claim.Impossible
claim_of Undecided = None

-- the text is the report of a right verdict that has this claim
pub record IsClaimed (study : Question) (text : List ℕ) (claim : Confirmed) : Type 0 where
  pub verdict : Verdict
  pub report : IsReport study verdict text
  pub claims : claim_of verdict ≡ Some claim

-- no rule satisfies some axioms of a study, whose places rise, and so none satisfies all
pub record IsImpossible (study : Question) : Type 0 where
  pub core : List ℕ
  pub places : IsTrue (is_core_from 0 (length study.axioms) core)
  pub none : HasNoRule study core
  pub none_for_all : HasNoRule study (below (length study.axioms))

-- a claim holds of a study
abbrev pub ClaimHolds : Question → Confirmed → Type 0
ClaimHolds study claim.Possible = (table : List ℕ) × IsRuleFor study table
ClaimHolds study claim.Impossible = IsImpossible study
