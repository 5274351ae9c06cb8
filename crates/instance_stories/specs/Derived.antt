-- The studies of instances.
use Rattle.std.specs.Prelude.{◌≡◌, List}
use Rattle.vocab.specs.Study.{Question}
use Rattle.sharp_verdicts.specs.declared.instances.Cited.{Cited}
use Rattle.sharp_verdicts.specs.Derived.{derived_study}
use Rattle.instance_studies.specs.Instances.{AreInstancesOf}
use Rattle.instance_stories.specs.Codes.{AreRisingInstances}

-- a study has as its axioms some instances of another: they are there, rise by axiom and number, and are few
-- enough
pub record IsDerivedFrom (study : Question) (instances : List Cited) (derived : Question) : Type 0 where
  pub own : AreInstancesOf study instances
  pub rising : AreRisingInstances instances
  pub made : derived ≡ derived_study study instances
