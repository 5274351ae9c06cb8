-- When a sharp verdict is right.
use Rattle.std.specs.Prelude.{◌≡◌, ℕ, Bool, ◌&&◌, ◌==◌, List, IsTrue}
use Rattle.std.specs.Cmp.Lexicographic.{pointwise}
use Rattle.std.specs.List.{list_all}
use Rattle.vocab.specs.Study.{Question}
use Rattle.meaning.specs.declared.cores.Witness.{Witness}
use Rattle.meaning.specs.declared.cores.Witness.TheVariants.{Rule, Open}
use Rattle.meaning.specs.declared.stories.Lemma.{Lemma}
use Rattle.meaning.specs.Stories.{is_story}
use Rattle.meaning.specs.Truth.{is_rule}
use Rattle.sharp_verdicts.specs.declared.instances.Cited.{Cited}
use Rattle.sharp_verdicts.specs.declared.sharp.Sharp.{Sharp}
use Rattle.sharp_verdicts.specs.Instances.{others_than, instances_of, core_of, is_true_of}

-- what a sharp text says: the axioms that a story cites, the story, the instances that it cites, and a mark for each of these
pub record Pointed : Type 0 where
  pub core : List ℕ
  pub story : List Lemma
  pub instances : List Cited
  pub marks : List Witness

-- what sharpening comes to says that
abbrev pub pointed : Sharp → Pointed
pointed s = record { core = s.core; story = s.story; instances = s.instances; marks = s.marks }

module _ (study : Question) where
  -- the body of each of some instances is true of a rule of the size
  abbrev pub satisfies_instances : List Cited → List ℕ → Bool
  satisfies_instances instances table = is_rule study.size table && list_all (is_true_of study table) instances

  -- the mark of an instance: a rule at which the bodies of the others are true, or an open mark with the limit of the study
  abbrev pub is_mark : List Cited → Cited → Witness → Bool
  is_mark instances c (Rule table) = satisfies_instances (others_than instances c) table
  is_mark instances c (Open limit) = limit == study.conflicts

  -- a sharp verdict is right: its story is accepted; its core and its instances are those that the story cites, each once and in order; and there is a mark for each instance
  pub record IsSharpRight (v : Pointed) : Type 0 where
    pub accepted : IsTrue (is_story study.size study.axioms v.core v.story)
    pub core : v.core ≡ core_of study v.story
    pub instances : v.instances ≡ instances_of study v.story
    pub marks : IsTrue (pointwise (is_mark v.instances) v.instances v.marks)
