use Rattle.vocab.specs.Tree.{tree_of}
use Rattle.lanes.specs.Lanes.{AreEntries}
use Rattle.lanes.proofs.building.entries_of.Given as goal

-- the entries so far tell of the atom
abbrev pub invariant-loop-place : goal.invariant-loop-place
invariant-loop-place g l = AreEntries (g.K.OutcomeKind.size l.setting.kind.now) l.setting.shape (tree_of l.leaf) l.entries.items
