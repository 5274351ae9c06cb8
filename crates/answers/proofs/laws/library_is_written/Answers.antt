use Rattle.answers.proofs.DeviceLaws.{library_written}
use Rattle.answers.proofs.laws.library_is_written.Goals as goal

pub returns : goal.returns
returns c = library_written
