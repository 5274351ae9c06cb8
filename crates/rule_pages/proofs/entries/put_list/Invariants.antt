use Rattle.std.proofs.Common.{◌≡◌, ◌++◌}
use Rattle.std.specs.List.{flat_map}
use Rattle.vocab.specs.Range.{below}
use Rattle.rule_pages.specs.Entries.{fold_html}
use Rattle.rule_pages.proofs.entries.put_list.Given as goal

-- what came so far was added
abbrev pub invariant-loop-cast : goal.invariant-loop-cast
invariant-loop-cast g l = l.out ≡ l.initial.out ++ flat_map (fold_html (g.K.OutcomeKind.size l.kind) l.table) (below l.cast)
