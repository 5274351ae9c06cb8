use Rattle.std.proofs.Common.{◌+◌}
use Rattle.meaning.specs.Instances.{AreInstancesTrue}
use Rattle.rule_check.proofs.blocks.block_failure.Given as goal

-- the instances so far are true
abbrev pub invariant-loop-k : goal.invariant-loop-k
invariant-loop-k g l = AreInstancesTrue (g.K.OutcomeKind.size l.block.trial.now.kind.now) l.block.trial.now.table.now l.block.trial.now.named.now.sentence l.block.from (l.block.from + l.k)
