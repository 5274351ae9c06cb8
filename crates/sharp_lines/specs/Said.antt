-- What is held of the lines of a sharp text past its story.
use Rattle.std.specs.Prelude.{◌≡◌, ℕ, ◌+◌, ◌<◌, ◌==◌, not, List, drop, length, get_or, Option, Some, None, IsTrue}
use Rattle.std.specs.List.{list_all}
use Rattle.vocab.specs.Study.{Question}
use Rattle.verdicts.specs.Numbers.{saturated}
use Rattle.sharp_verdicts.specs.SharpLines.{SharpLine, InstancesAre, NeedsRule, NeedsOpen}
use Rattle.sharp_verdicts.specs.SharpPlaces.{AtInstances, AtNeed, read_past}
use Rattle.sharp_lines.specs.declared.needs.Need.{Need}
use Rattle.sharp_lines.specs.declared.needs.Need.TheVariants.{Rule, Open}

-- no byte is a blank
abbrev pub HasNoBlank : List ℕ → Type 0
HasNoBlank text = IsTrue (list_all (λ b. not (b == 32)) text)

-- at a place of a text stands a blank, and none after it
abbrev pub IsLastBlank : List ℕ → ℕ → Type 0
IsLastBlank text k = (k < length text) × (get_or text k 0 ≡ 32) × HasNoBlank (drop (k + 1) text)

-- what is held of a line that says how many instances there are, if it is such a line
abbrev pub IsCountOf : Option SharpLine → Option ℕ → Type 0
IsCountOf line None = line ≡ None
IsCountOf line (Some count) = (n : ℕ) × (line ≡ Some (InstancesAre n)) × (count ≡ saturated n)

-- what is held of the first line of a mark, if it is such a line
abbrev pub IsNeedOf : Option SharpLine → Option Need → Type 0
IsNeedOf line None = line ≡ None
IsNeedOf line (Some (Rule r count)) = (n : ℕ) × (line ≡ Some (NeedsRule r n)) × (count ≡ saturated n)
IsNeedOf line (Some (Open r limit)) = (n : ℕ) × (line ≡ Some (NeedsOpen r n)) × (limit ≡ saturated n)

module _ (study : Question) (text : List ℕ) where
  -- of a line of this text at the place of the number of instances
  abbrev pub IsCount : Option ℕ → Type 0
  IsCount result = IsCountOf (read_past study AtInstances text) result

  -- of one at the place of a mark
  abbrev pub IsNeed : Option Need → Type 0
  IsNeed result = IsNeedOf (read_past study AtNeed text) result
