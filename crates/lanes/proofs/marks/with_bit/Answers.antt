use Rattle.lanes.proofs.MarkLaws.{with_one}
use Rattle.lanes.proofs.marks.with_bit.Goals as goal

pub returns : goal.returns
returns c = λ j e. with_one c.args.word c.args.k c.requires j e
