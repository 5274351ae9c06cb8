use Rattle.std.proofs.Common.{sym, subst, List}
use Rattle.vocab.specs.Tree.{tree_of}
use Rattle.lanes.specs.Lanes.{AreEntries}
use Rattle.lanes.specs.declared.tables.Entry.{Entry}
use Rattle.lanes.proofs.TableLaws.{one_more_entry}
use Rattle.lanes.proofs.building.entries_of.Goals as goal

pub loop-place-preserved : goal.loop-place-preserved
loop-place-preserved g c =
    let size = g.K.OutcomeKind.size c.args.setting.now.kind.now in
    let shape = c.args.setting.now.shape in
    let f = tree_of c.args.leaf.now in
    subst (λ (es : List Entry). AreEntries size shape f es) (sym c.in_ok-push.ensures.items)
    (one_more_entry size shape f c.loop-place.entries.items c.in-Some-entry_of.entry c.loop-place.invariant c.in-Some-entry_of.ensures)
