-- The instances that the lines of a story cite, as they are collected.
use Rattle.std.specs.Prelude.{◌≡◌, ℕ, ◌==◌, Bool, true, false, List, [], ◌++◌, map, Option, Some, None, IsTrue}
use Rattle.std.specs.List.{list_all, list_any}
use Rattle.std.specs.Option.{option_map_or}
use Rattle.vocab.specs.Study.{Question}
use Rattle.meaning.specs.declared.stories.Reason.{Reason}
use Rattle.meaning.specs.declared.stories.Lemma.{Lemma}
use Rattle.meaning.specs.declared.stories.StoryStep.{StoryStep}
use Rattle.verdicts.specs.declared.refusals.Refusal.TheVariants.{Fails}
use Rattle.verdicts.specs.Lines.{name_at}
use Rattle.report_lines.specs.declared.lines.Line.{Line as HeldLine}
use Rattle.report_lines.specs.declared.lines.Line.TheVariants.{So, Clash, SaysPossible}
use Rattle.sharp_verdicts.specs.declared.instances.Cited.{Cited}
use Rattle.sharp_verdicts.specs.declared.refusals.SharpRefusal.{SharpRefusal}
use Rattle.sharp_verdicts.specs.declared.refusals.SharpRefusal.TheVariants.{Report}
use Rattle.told_instances.specs.Told.{codes_in, codes_by, codes_told, names_instance, has_reasons}

-- the reason that a line of a story gives
abbrev pub reason_in : HeldLine → Option Reason
reason_in (So l r) = Some r
reason_in (Clash r) = Some r
reason_in _ = None

-- a line says that some rule satisfies all axioms
abbrev pub says_possible : HeldLine → Bool
says_possible SaysPossible = true
says_possible _ = false

-- an instance of the axiom at a place is in a list
abbrev pub has_axiom : List Cited → ℕ → Bool
has_axiom instances k = list_any (λ c. c.«axiom» == k) instances

module _ (study : Question) where
  -- the refusal of a table of which the body of an instance is false
  abbrev pub failing_at : Cited → SharpRefusal
  failing_at c = Report (Fails (name_at study.axioms c.«axiom») c.number)

  -- the number of the instance that a line cites, if it cites one
  abbrev pub codes_of_line : HeldLine → List ℕ
  codes_of_line line = option_map_or (codes_in study) (reason_in line) []

  -- the reason of a line names what there is
  abbrev pub names_of_line : HeldLine → Bool
  names_of_line line = option_map_or (names_instance study) (reason_in line) true

  -- the numbers of the instances that some lemmas cite, and then those of the steps of the next one
  abbrev pub codes_so_far : List Lemma → List StoryStep → List ℕ
  codes_so_far earlier steps = codes_told study earlier ++ codes_by study (map (λ step. step.reason) steps)

  -- numbers are those that lemmas and steps cite, whose reasons name what there is
  pub record Cites (numbers : List ℕ) (earlier : List Lemma) (steps : List StoryStep) : Type 0 where
    pub are : numbers ≡ codes_so_far earlier steps
    pub lemmas_named : IsTrue (has_reasons study earlier)
    pub steps_named : IsTrue (list_all (λ step. names_instance study step.reason) steps)

  -- they are those that some story cites
  abbrev pub IsCitedBySome : List ℕ → Type 0
  IsCitedBySome numbers = (story : List Lemma) × Cites numbers story []
