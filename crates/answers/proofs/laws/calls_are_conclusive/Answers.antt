use Rattle.answers.proofs.ConclusiveCalls.{calls_conclusive}
use Rattle.answers.proofs.laws.calls_are_conclusive.Goals as goal

pub returns : goal.returns
returns c = calls_conclusive
