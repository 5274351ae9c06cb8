use Rattle.samples.proofs.Samples.{samples_given}
use Rattle.samples.proofs.laws.samples_are_studies.Goals as goal

pub returns : goal.returns
returns c = samples_given
