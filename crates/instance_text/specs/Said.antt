-- What is said of an instance, by the name of its axiom and its number.
use Rattle.std.specs.Prelude.{ℕ, ◌+◌, nat_lt, Bool, false, List, [], ◌∷◌, ◌++◌, slice_get, codes, decimal, if◌then◌else◌, Option, Some, None}
use Rattle.std.specs.List.{position}
use Rattle.std.specs.Option.{option_map_or}
use Rattle.std.specs.Str.{bytes_eq}
use Rattle.vocab.specs.declared.kinds.Sort.{Sort}
use Rattle.vocab.specs.Formula.{prefix_of}
use Rattle.vocab.specs.Limits.{instance_count}
use Rattle.vocab.specs.Size.{Extent}
use Rattle.vocab.specs.Study.{Question}
use Rattle.vocab.specs.Titled.{Titled}
use Rattle.meaning.specs.Instances.{instance_values}
use Rattle.meaning.specs.declared.stories.Reason.TheVariants.{Axiom as ByAxiom}
use Rattle.verdicts.specs.Texts.{value_text}
use Rattle.report_text.specs.Pieces.{reason_text}
use Rattle.syntax.specs.Canonical.{canonical_text}
use Rattle.syntax.specs.Grammar.{word_of_sort}
use Rattle.instance_text.specs.Bodies.{named_body, variable_name}

-- the place of the axiom of a name
abbrev pub axiom_place : List Titled → (name : List ℕ) → Option ℕ
axiom_place axioms name = position (λ a. bytes_eq a.name name) axioms

-- no axiom has the name
abbrev pub no_axiom_line : (name : List ℕ) → List ℕ
no_axiom_line name = codes "instance: no axiom " ++ name ++ codes "\n"

module _ (size : Extent) where
  -- a value: its variable, the sort, and the value as a reason writes it
  abbrev pub value_line : Sort → (place value : ℕ) → List ℕ
  value_line s place v = variable_name s place ++ codes " " ++ word_of_sort s ++ codes " " ++ value_text size s v ++ codes "\n"

  -- the values of the leading universals, from one place on
  abbrev pub value_lines : (place : ℕ) → List Sort → (values : List ℕ) → List ℕ
  value_lines place [] values = []
  value_lines place (s ∷ sorts) [] = []
  value_lines place (s ∷ sorts) (v ∷ values) = value_line s place v ++ value_lines (place + 1) sorts values

  -- the line of the body
  abbrev pub body_line : Titled → (values : List ℕ) → List ℕ
  body_line a values = codes "body " ++ canonical_text (named_body size a.sentence values) ++ codes "\n"

module _ (study : Question) where
  -- an instance at these values: as a reason of a report cites it; its values; and its body
  abbrev pub told_instance : (place : ℕ) → Titled → (values : List ℕ) → List ℕ
  told_instance place a values =
      reason_text study (ByAxiom place values) ++ codes "\n" ++ value_lines study.size 1 (prefix_of a.sentence) values ++ body_line study.size a values

  -- there are too few instances
  abbrev pub few_line : Titled → List ℕ
  few_line a = codes "instance: " ++ a.name ++ codes " has " ++ decimal (instance_count study.size a.sentence) ++ codes " instances, numbered from 0\n"

  -- the axiom has an instance of this number
  abbrev pub has_numbered_instance : (number : ℕ) → Titled → Bool
  has_numbered_instance number a = nat_lt number (instance_count study.size a.sentence)

  -- what is said of the instance of a number of the axiom at a place
  abbrev pub said_of_instance : (number place : ℕ) → Titled → List ℕ
  said_of_instance number place a = if has_numbered_instance number a then told_instance place a (instance_values study.size a.sentence number) else few_line a

  -- the instance of a number of the axiom at a place is there, and what is said of it
  abbrev pub is_there_at : (number : ℕ) → Option ℕ → Bool
  is_there_at number None = false
  is_there_at number (Some place) = option_map_or (has_numbered_instance number) (slice_get study.axioms place) false

  abbrev pub said_at : (name : List ℕ) → (number : ℕ) → Option ℕ → List ℕ
  said_at name number None = no_axiom_line name
  said_at name number (Some place) = option_map_or (said_of_instance number place) (slice_get study.axioms place) []

  -- the study has an axiom of the name with an instance of the number
  abbrev pub is_there : (name : List ℕ) → (number : ℕ) → Bool
  is_there name number = is_there_at number (axiom_place study.axioms name)

  -- what is said of an instance, or why there is none
  abbrev pub said : (name : List ℕ) → (number : ℕ) → List ℕ
  said name number = said_at name number (axiom_place study.axioms name)
