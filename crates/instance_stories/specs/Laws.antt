-- What holds of stories over instances: the statements of the laws.
use Rattle.std.specs.Prelude.{ℕ, List, IsTrue}
use Rattle.std.specs.List.{list_all}
use Rattle.vocab.specs.Study.{Question}
use Rattle.meaning.specs.declared.stories.Lemma.{Lemma}
use Rattle.meaning.specs.Stories.{is_story}
use Rattle.sharp_verdicts.specs.declared.instances.Cited.{Cited}
use Rattle.sharp_verdicts.specs.Derived.{axioms_from}
use Rattle.sharp_verdicts.specs.Instances.{is_present, core_of}
use Rattle.instance_stories.specs.Named.{story_named}

-- a story that is accepted over the study of some instances is accepted over their study, once its reasons are named back; its core is that of the axioms which it cites
abbrev pub NamedStoriesAreAccepted : Type 0
NamedStoriesAreAccepted =
    (study : Question) (instances : List Cited) (core : List ℕ) (story : List Lemma) → IsTrue (list_all (is_present study) instances)
    → IsTrue (is_story study.size (axioms_from study 0 instances) core story)
    → IsTrue (is_story study.size study.axioms (core_of study (story_named study instances story)) (story_named study instances story))
