use Rattle.closing.proofs.SentenceLaws.{is_instance}
use Rattle.closing.proofs.laws.closed_bodies_are_instances.Goals as goal

pub returns : goal.returns
returns c = is_instance
