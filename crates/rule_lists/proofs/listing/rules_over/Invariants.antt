use Rattle.std.proofs.Common.{◌≡◌, length}
use Rattle.rule_lists.specs.Finding.{AreFoundRules}
use Rattle.rule_lists.proofs.listing.rules_over.Given as goal

-- so many rules were found
abbrev pub invariant-loop-count : goal.invariant-loop-count
invariant-loop-count g l = AreFoundRules l.setting.study.now l.found.tables.items l.found.clauses.clauses × (length l.found.tables.items ≡ l._count)
