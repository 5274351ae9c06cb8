use Rattle.std.proofs.Common.{sym}
use Rattle.rule_check.proofs.BlockLemmas.{told_true}
use Rattle.rule_check.proofs.blocks.is_true_at.Goals as goal

pub returns-then-is_told : goal.returns-then-is_told
returns-then-is_told g c =
    let block = c.args.block.now in
    sym (told_true (g.K.OutcomeKind.size block.trial.now.kind.now) block.trial.now.table.now block.trial.now.named.now.sentence block.from block.word c.args.k block.told (c.is_told.ensures c.if-is_told.true))
