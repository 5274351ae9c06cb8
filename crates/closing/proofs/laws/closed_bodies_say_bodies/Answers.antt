use Rattle.closing.proofs.ClosedLaws.{says_body}
use Rattle.closing.proofs.laws.closed_bodies_say_bodies.Goals as goal

pub returns : goal.returns
returns c = says_body
