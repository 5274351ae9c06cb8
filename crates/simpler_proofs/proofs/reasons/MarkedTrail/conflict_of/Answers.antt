use Rattle.simpler_proofs.proofs.Entries.{reason_if}
use Rattle.simpler_proofs.proofs.reasons.MarkedTrail.conflict_of.Goals as goal

pub returns-then-value-positive-clause-some : goal.returns-then-value-positive-clause-some
returns-then-value-positive-clause-some c = reason_if c.loop-lit.self.trail c.variable-then-value-positive.result c.reason.result c.loop-lit.self.form c.reason.ensures
