use Rattle.explain_answers.proofs.WrittenLaws.{pages_hold}
use Rattle.explain_answers.proofs.written.written_pages_hold.Goals as goal

pub returns : goal.returns
returns c = pages_hold
