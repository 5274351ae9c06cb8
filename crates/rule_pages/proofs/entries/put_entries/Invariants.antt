use Rattle.std.proofs.Common.{◌≡◌, ◌++◌}
use Rattle.std.specs.List.{flat_map}
use Rattle.vocab.specs.Range.{below}
use Rattle.rule_pages.specs.Entries.{entry_under}
use Rattle.rule_pages.proofs.entries.put_entries.Given as goal

-- what came so far was added
abbrev pub invariant-loop-p : goal.invariant-loop-p
invariant-loop-p g l = l.out ≡ l.initial.out ++ flat_map (entry_under (g.K.OutcomeKind.size l.kind) l.table l.cast) (below l.p)
