-- The numbers of the instances that a story cites, in the order of the story.
use Rattle.std.specs.Prelude.{ℕ, ◌<◌, Bool, true, ◌&&◌, nat_lt, List, [], ◌∷◌, map, length, slice_get, Option, Some, None}
use Rattle.std.specs.Cmp.Lexicographic.{pointwise}
use Rattle.std.specs.List.{flat_map, list_all}
use Rattle.vocab.specs.Study.{Question}
use Rattle.meaning.specs.declared.stories.Reason.{Reason}
use Rattle.meaning.specs.declared.stories.Reason.TheVariants.{Axiom as ByAxiom, Outcome as ByOutcome, Lemma as ByLemma}
use Rattle.meaning.specs.declared.stories.Lemma.{Lemma}
use Rattle.vocab.specs.Size.{sort_count}
use Rattle.verdicts.specs.Lines.{sorts_of}
use Rattle.sharp_verdicts.specs.declared.instances.Cited.{Cited}
use Rattle.sharp_verdicts.specs.Instances.{reasons_of, number_at}
use Rattle.instance_stories.specs.Codes.{code_of}

-- an instance has the place of an axiom of a study, and a number within its limit
abbrev pub IsSmallInstance : Cited → Type 0
IsSmallInstance c = (c.«axiom» < 4000000) × (c.number < 40000000)

module _ (study : Question) where
  -- the instance that a reason cites, if it cites one
  abbrev pub cited_instance : Reason → Option Cited
  cited_instance (ByAxiom k values) = Some (record { «axiom» = k; number = number_at study k values })
  cited_instance (ByOutcome p) = None
  cited_instance (ByLemma j) = None

  -- that of a reason, where it cites one
  abbrev pub codes_in : Reason → List ℕ
  codes_in (ByAxiom k values) = code_of (record { «axiom» = k; number = number_at study k values }) ∷ []
  codes_in (ByOutcome p) = []
  codes_in (ByLemma j) = []

  -- those of some reasons
  abbrev pub codes_by : List Reason → List ℕ
  codes_by reasons = flat_map codes_in reasons

  -- those of a story
  abbrev pub codes_told : List Lemma → List ℕ
  codes_told story = flat_map (λ lemma. codes_by (reasons_of lemma)) story

  -- where a reason is by an axiom, it names one of the study, with one value in range for each leading universal
  abbrev pub names_instance : Reason → Bool
  names_instance (ByAxiom k values) = nat_lt k (length study.axioms) && pointwise nat_lt values (map (sort_count study.size) (sorts_of (slice_get study.axioms k)))
  names_instance (ByOutcome p) = true
  names_instance (ByLemma j) = true

  -- so do the reasons of a story
  abbrev pub has_reasons : List Lemma → Bool
  has_reasons story = list_all (λ lemma. list_all names_instance (reasons_of lemma)) story
