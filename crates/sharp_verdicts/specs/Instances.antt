-- Instances of the axioms of a study, and those that a story cites.
use Rattle.std.specs.Prelude.{ℕ, Bool, false, ◌&&◌, ◌==◌, nat_lt, not, List, [], ◌∷◌, ◌++◌, map, filter, length, slice_get}
use Rattle.std.specs.List.{flat_map, list_any}
use Rattle.std.specs.Option.{option_map_or}
use Rattle.vocab.specs.Limits.{bases_of, instance_count}
use Rattle.vocab.specs.Study.{Question}
use Rattle.vocab.specs.Titled.{Titled}
use Rattle.meaning.specs.declared.stories.Reason.{Reason}
use Rattle.meaning.specs.declared.stories.Reason.TheVariants.{Axiom as ByAxiom, Outcome as ByOutcome, Lemma as ByLemma}
use Rattle.meaning.specs.declared.stories.Lemma.{Lemma}
use Rattle.meaning.specs.Instances.{instance_values, is_instance_true}
use Rattle.meaning.specs.Space.{below, number_of}
use Rattle.sharp_verdicts.specs.declared.instances.Cited.{Cited}

-- two instances are the same
abbrev pub same_instance : Cited → Cited → Bool
same_instance c d = c.«axiom» == d.«axiom» && c.number == d.number

-- an instance is in a list
abbrev pub has_instance : List Cited → Cited → Bool
has_instance instances c = list_any (same_instance c) instances

-- the instances of a list without one of them
abbrev pub others_than : List Cited → Cited → List Cited
others_than instances c = filter (λ d. not (same_instance d c)) instances

-- the reasons of a lemma, of its steps and the last
abbrev pub reasons_of : Lemma → List Reason
reasons_of lemma = map (λ step. step.reason) lemma.steps ++ lemma.last ∷ []

-- a reason cites the axiom at a place
abbrev pub cites_axiom : ℕ → Reason → Bool
cites_axiom k (ByAxiom j values) = j == k
cites_axiom k (ByOutcome p) = false
cites_axiom k (ByLemma j) = false

-- a story does
abbrev pub is_axiom_told : List Lemma → ℕ → Bool
is_axiom_told story k = list_any (λ lemma. list_any (cites_axiom k) (reasons_of lemma)) story

module _ (study : Question) where
  -- how many instances the axiom at a place has
  abbrev pub count_at : ℕ → ℕ
  count_at k = option_map_or (λ (a : Titled). instance_count study.size a.sentence) (slice_get study.axioms k) 0

  -- there is such an instance
  abbrev pub is_present : Cited → Bool
  is_present c = nat_lt c.«axiom» (length study.axioms) && nat_lt c.number (count_at c.«axiom»)

  -- the values that an instance gives the leading universals of its axiom
  abbrev pub values_at : Cited → List ℕ
  values_at c = option_map_or (λ (a : Titled). instance_values study.size a.sentence c.number) (slice_get study.axioms c.«axiom») []

  -- the number of the instance of an axiom at these values
  abbrev pub number_at : ℕ → List ℕ → ℕ
  number_at k values = option_map_or (λ (a : Titled). number_of (bases_of study.size a.sentence) values) (slice_get study.axioms k) 0

  -- a reason cites an instance: its axiom, at the values that the instance gives
  abbrev pub cites : Cited → Reason → Bool
  cites c (ByAxiom k values) = c.«axiom» == k && c.number == number_at k values
  cites c (ByOutcome p) = false
  cites c (ByLemma j) = false

  -- a story does
  abbrev pub is_told : List Lemma → Cited → Bool
  is_told story c = list_any (λ lemma. list_any (cites c) (reasons_of lemma)) story

  -- the instances of all axioms, by axiom and number
  abbrev pub all_instances : List Cited
  all_instances = flat_map (λ k. map (λ n. record { «axiom» = k; number = n }) (below (count_at k))) (below (length study.axioms))

  -- the instances that a story cites, each once, by axiom and number
  abbrev pub instances_of : List Lemma → List Cited
  instances_of story = filter (is_told story) all_instances

  -- the axioms that it cites, in the order of the study
  abbrev pub core_of : List Lemma → List ℕ
  core_of story = filter (is_axiom_told story) (below (length study.axioms))

  -- the body of an instance is true of a rule
  abbrev pub is_true_of : List ℕ → Cited → Bool
  is_true_of table c = option_map_or (λ (a : Titled). is_instance_true study.size table a.sentence c.number) (slice_get study.axioms c.«axiom») false
