use Rattle.lanes.proofs.telling.moved.Goals as goal

pub returns-then-lanes-eq64 : goal.returns-then-lanes-eq64
returns-then-lanes-eq64 c = c.merged.ensures c.args.done c.args.lanes c.args.shift c.if-lanes-eq64.true c.requires.done c.requires.shift
