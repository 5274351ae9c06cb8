-- What is found when a set of axioms is asked about.
use Rattle.std.specs.Prelude.{ℕ, Bool, not, ◌||◌, List, length, Some, IsTrue, IsFalse}
use Rattle.std.specs.List.{list_all}
use Rattle.vocab.specs.Study.{Question}
use Rattle.cnf.specs.Sat.{is_clause_true}
use Rattle.meaning.specs.StudyClauses.{Sourced}
use Rattle.clause_form.specs.Cited.{is_of_axiom}
use Rattle.axiom_sets.specs.declared.maps.AxiomMap.{AxiomMap}
use Rattle.axiom_sets.specs.Sets.{is_set, is_within, has_whole}
use Rattle.core_maps.specs.declared.answers.Asked.{Asked}
use Rattle.core_maps.specs.declared.answers.Asked.TheVariants.{Impossible, Possible, Open}
use Rattle.core_maps.specs.declared.asking.Tried.{Tried}
use Rattle.core_maps.specs.declared.asking.Tried.TheVariants as tried
use Rattle.core_maps.specs.declared.seeking.Sought.{Sought}
use Rattle.core_maps.specs.declared.seeking.Sought.TheVariants as sought
use Rattle.core_maps.specs.CoreMaps.{HasRule, IsImpossibleSet, IsOpen}

-- each clause of an axiom is true under an assignment
abbrev pub is_whole_true : (ℕ → Bool) → List Sourced → ℕ → Bool
is_whole_true v sources a = list_all (λ s. is_clause_true v s.clause || not (is_of_axiom a (Some s.origin))) sources

module _ (study : Question) (set : List ℕ) where
  -- some rule satisfies a set of axioms within which this one lies
  abbrev pub IsWider : List ℕ → Type 0
  IsWider all = IsTrue (is_set (length study.axioms) all) × IsTrue (is_within set all) × HasRule study all

  -- no rule satisfies a set of axioms that lies within this one
  abbrev pub IsCoreOf : List ℕ → Type 0
  IsCoreOf core = IsTrue (is_set (length study.axioms) core) × IsTrue (is_within core set) × IsImpossibleSet study core

  -- what a search over the clauses of the set came to
  abbrev pub IsSought : Sought → Type 0
  IsSought (sought.Rule all) = IsWider all
  IsSought (sought.Core core) = IsCoreOf core
  IsSought sought.Spent = IsOpen study set

module _ (study : Question) (sets : AxiomMap) (set : List ℕ) where
  -- what is left of an open set is not tried further; or it is open too, and is not known to be possible; or no rule satisfies a part of it
  abbrev pub IsTried : Tried → Type 0
  IsTried tried.Needed = Unit {0}
  IsTried tried.Spent = IsFalse (has_whole sets.possible set) × IsOpen study set
  IsTried (tried.Core core) = IsCoreOf study set core

  -- a part of the set that no rule satisfies; all axioms that a rule satisfies which satisfies the set; or a part of it that is not known to be possible, over which a search spent the limit
  abbrev pub IsAsked : Asked → Type 0
  IsAsked (Impossible core) = IsCoreOf study set core
  IsAsked (Possible all) = IsWider study set all
  IsAsked (Open part) =
      IsTrue (is_set (length study.axioms) part) × IsTrue (is_within part set) × IsFalse (has_whole sets.possible part) × IsOpen study part
