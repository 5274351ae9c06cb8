-- `cores STUDY`: the map of the axioms of a study.
use Rattle.std.specs.Prelude.{◌≡◌, ℕ, List, [], ◌∷◌}
use Rattle.edge.specs.Shelf.{Files}
use Rattle.vocab.specs.Study.{Question}
use Rattle.answers.specs.Grounding.{OverClauses}
use Rattle.answers.specs.Studies.{OverStudy}
use Rattle.core_maps.specs.declared.answers.CoreMap.{CoreMap}
use Rattle.core_maps.specs.declared.answers.Ending.{Ending}
use Rattle.core_maps.specs.declared.answers.Ending.TheVariants.{Whole, Cut}
use Rattle.core_maps.specs.CoreMaps.{IsMapping}
use Rattle.map_text.specs.MapText.{map_text}
use Rattle.explain_answers.specs.Story.{bare_run}

-- 4 where a set is open, or there may be more sets
abbrev pub ending_status : Ending → (open_sets : List (List ℕ)) → ℕ
ending_status Cut open_sets = 4
ending_status Whole [] = 0
ending_status Whole (set ∷ open_sets) = 4

-- so of a map
abbrev pub cores_status : CoreMap → ℕ
cores_status map = ending_status map.ending map.sets.open

-- a right map is written
pub record IsMapped (study : Question) (status : ℕ) (text : List ℕ) : Type 0 where
  pub map : CoreMap
  pub right : IsMapping study map
  pub ends : status ≡ cores_status map
  pub lines : text ≡ map_text study map

-- the file of the study is refused, or the clauses of its axioms are, as `decide` refuses them; or their sets are mapped
abbrev pub AreCores : Files → (name : List ℕ) → (status : ℕ) → (text : List ℕ) → Type 0
AreCores files name status text =
    OverStudy files name (bare_run status) text (λ study. OverClauses study (bare_run status) text (IsMapped study status text))
