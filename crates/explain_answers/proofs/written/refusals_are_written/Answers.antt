use Rattle.explain_answers.proofs.WrittenLaws.{refusals_explained}
use Rattle.explain_answers.proofs.written.refusals_are_written.Goals as goal

pub returns : goal.returns
returns c = refusals_explained
