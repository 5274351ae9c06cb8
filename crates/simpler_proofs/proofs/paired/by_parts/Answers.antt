use Rattle.simpler_proofs.proofs.Passing.{pairs_made}
use Rattle.simpler_proofs.proofs.paired.by_parts.Goals as goal

pub returns-clause-pairs : goal.returns-clause-pairs
returns-clause-pairs c = pairs_made c.in_ok-made.made c.args.pairs.now.lines.now c.args.pairs.now.pairs c.in_ok-made.ensures.parts
