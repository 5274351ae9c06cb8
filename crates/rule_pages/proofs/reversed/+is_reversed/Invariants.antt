use Rattle.std.proofs.Common.{length}
use Rattle.rule_pages.proofs.reversed.+is_reversed.Given as goal

-- a letter less each time
abbrev pub decreases-is_reversed : goal.decreases-is_reversed
decreases-is_reversed l = length l.text.now
