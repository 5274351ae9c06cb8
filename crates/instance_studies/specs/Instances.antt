-- Lists of instances that may be the axioms of a study of their own.
use Rattle.std.specs.Prelude.{◌≤◌, List, length, IsTrue}
use Rattle.std.specs.List.{list_all}
use Rattle.vocab.specs.Study.{Question}
use Rattle.sharp_verdicts.specs.declared.instances.Cited.{Cited}
use Rattle.sharp_verdicts.specs.Instances.{is_present}

-- the instances are there in the study, and are no more than a study may have axioms
pub record AreInstancesOf (study : Question) (instances : List Cited) : Type 0 where
  pub few : length instances ≤ 4000000
  pub present : IsTrue (list_all (is_present study) instances)
