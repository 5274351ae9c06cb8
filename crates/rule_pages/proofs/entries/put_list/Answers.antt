use Rattle.vocab.proofs.Ranges.{goes_on}
use Rattle.rule_pages.specs.Entries.{fold_html}
use Rattle.rule_pages.proofs.entries.put_list.Goals as goal

pub loop-cast-preserved : goal.loop-cast-preserved
loop-cast-preserved g c = goes_on (fold_html (g.K.OutcomeKind.size c.args.kind.now) c.args.table.now) _ _ _ _ c.loop-cast.invariant c.in_ok-put_fold.ensures
