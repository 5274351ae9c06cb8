use Rattle.vocab.proofs.Ranges.{goes_on}
use Rattle.rule_pages.specs.Entries.{entry_under}
use Rattle.rule_pages.proofs.entries.put_entries.Goals as goal

pub loop-p-preserved : goal.loop-p-preserved
loop-p-preserved g c = goes_on (entry_under (g.K.OutcomeKind.size c.args.kind.now) c.args.table.now c.args.cast) _ _ _ _ c.loop-p.invariant c.in_ok-put_entry_of.ensures
