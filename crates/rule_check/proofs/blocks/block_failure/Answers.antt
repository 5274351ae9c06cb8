use Rattle.std.proofs.Common.{◌+◌, ◌∙◌, sym, arith}
use Rattle.meaning.specs.Instances.{is_instance_true}
use Rattle.rule_check.proofs.BlockLemmas.{true_with}
use Rattle.rule_check.proofs.blocks.block_failure.Goals as goal

pub loop-k-preserved : goal.loop-k-preserved
loop-k-preserved g c = λ k low high.
    let block = c.args.block.now in
    true_with (g.K.OutcomeKind.size block.trial.now.kind.now) block.trial.now.table.now block.trial.now.named.now.sentence c.args.block.now.from (c.args.block.now.from + c.loop-k.k) c.loop-k.invariant
    (sym {b = is_instance_true (g.K.OutcomeKind.size c.args.block.now.trial.now.kind.now) c.args.block.now.trial.now.table.now c.args.block.now.trial.now.named.now.sentence (c.args.block.now.from + c.loop-k.k)} c.is_true_at.ensures ∙ c.if-not-is_true_at.false) k low (omega (arith, high))

pub returns : goal.returns
returns g c = λ k low high. c.loop-k.invariant k low (omega (arith, high, c.loop-k-test.false))
