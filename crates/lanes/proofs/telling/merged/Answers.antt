use Rattle.std.proofs.Common.{arith}
use Rattle.lanes.proofs.MarkLaws.{whole_moved}
use Rattle.lanes.proofs.telling.merged.Goals as goal

pub returns : goal.returns
returns c = λ done lanes shift e d s. whole_moved c.args.word done c.args.yes shift lanes e d s (let small = c.ranges.yes in omega (arith, small))
