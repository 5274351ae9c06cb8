use Rattle.study.proofs.StudySizes.{plain_size}
use Rattle.study.proofs.laws.plain_studies_have_plain_sizes.Goals as goal

pub returns : goal.returns
returns c = plain_size
