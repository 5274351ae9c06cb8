-- A story over a derived study, with its reasons named back to the axioms and values of the instances.
use Rattle.std.specs.Prelude.{List, map, slice_get, Option, Some, None}
use Rattle.vocab.specs.Study.{Question}
use Rattle.meaning.specs.declared.stories.Reason.{Reason}
use Rattle.meaning.specs.declared.stories.Reason.TheVariants.{Axiom as ByAxiom, Outcome as ByOutcome, Lemma as ByLemma}
use Rattle.meaning.specs.declared.stories.StoryStep.{StoryStep}
use Rattle.meaning.specs.declared.stories.Lemma.{Lemma}
use Rattle.sharp_verdicts.specs.declared.instances.Cited.{Cited}
use Rattle.sharp_verdicts.specs.SharpLines.{reason_at}

-- the reason that cites an instance, where there is one
abbrev pub reason_citing : Question → Option Cited → Reason
reason_citing study None = ByOutcome 0
reason_citing study (Some c) = reason_at study c

module _ (study : Question) (instances : List Cited) where
  -- a reason by an axiom of the derived study is one by its instance
  abbrev pub named_back : Reason → Reason
  named_back (ByAxiom k values) = reason_citing study (slice_get instances k)
  named_back (ByOutcome p) = ByOutcome p
  named_back (ByLemma j) = ByLemma j

  -- so in a step
  abbrev pub step_named : StoryStep → StoryStep
  step_named step = record { literal = step.literal; reason = named_back step.reason }

  -- and in a lemma
  abbrev pub lemma_named : Lemma → Lemma
  lemma_named lemma = record { suppose = lemma.suppose; steps = map step_named lemma.steps; last = named_back lemma.last }

  -- a story named back
  abbrev pub story_named : List Lemma → List Lemma
  story_named story = map lemma_named story
