-- The map of the axioms of a study: all minimal sets that no rule satisfies, and all largest that some rule satisfies.
use Rattle.std.specs.Prelude.{ℕ, List, length, IsTrue}
use Rattle.std.specs.List.{AllByRecursion}
use Rattle.vocab.specs.Study.{Question}
use Rattle.cnf.specs.Fresh.{IsSpent}
use Rattle.cnf.specs.declared.derivations.Line.{Line}
use Rattle.meaning.specs.StudyClauses.{clauses_for}
use Rattle.meaning.specs.Truth.{satisfies}
use Rattle.meaning.specs.Variables.{variable_count}
use Rattle.axiom_sets.specs.declared.maps.AxiomMap.{AxiomMap}
use Rattle.axiom_sets.specs.Sets.{is_set}
use Rattle.axiom_sets.specs.Maps.{covers, IsTidy}
use Rattle.axiom_sets.specs.Next.{IsCutShort}
use Rattle.core_maps.specs.declared.answers.CoreMap.{CoreMap}
use Rattle.core_maps.specs.declared.answers.Ending.{Ending}
use Rattle.core_maps.specs.declared.answers.Ending.TheVariants.{Whole, Cut}

module _ (study : Question) where
  -- some rule of the size satisfies all axioms of a set
  abbrev pub HasRule : List ℕ → Type 0
  HasRule set = (table : List ℕ) × IsTrue (satisfies study.size study.axioms set table)

  -- no rule of the size satisfies all axioms of a set
  abbrev pub IsImpossibleSet : List ℕ → Type 0
  IsImpossibleSet set = (table : List ℕ) → ¬ IsTrue (satisfies study.size study.axioms set table)

  -- a search over the clauses of the axioms of a set spent the study's limit
  abbrev pub IsOpen : List ℕ → Type 0
  IsOpen set = (lines : List Line) × IsSpent (variable_count study.size) (clauses_for study.size study.axioms set) study.conflicts lines

  -- what a map says of its sets is right
  pub record IsRight (sets : AxiomMap) : Type 0 where
    pub impossible : AllByRecursion IsImpossibleSet sets.impossible
    pub possible : AllByRecursion HasRule sets.possible
    pub open_sets : AllByRecursion IsOpen sets.open

  -- how a map ends: it covers each set of the study's axioms; or the search for one that it does not cover was cut short
  abbrev pub MapEndsAs : AxiomMap → Ending → Type 0
  MapEndsAs sets Whole = (set : List ℕ) → IsTrue (is_set (length study.axioms) set) → IsTrue (covers sets set)
  MapEndsAs sets Cut = IsCutShort (length study.axioms) sets

  -- a map of a study: its sets are tidy, what it says of them is right, and it ends so
  pub record IsMapping (map : CoreMap) : Type 0 where
    pub tidy : IsTidy (length study.axioms) map.sets
    pub right : IsRight map.sets
    pub ends : MapEndsAs map.sets map.ending
