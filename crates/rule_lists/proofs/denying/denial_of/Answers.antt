use Rattle.std.proofs.Common.{rules}
use Rattle.cnf.specs.Assignment.{value_of}
use Rattle.rule_lists.proofs.LeavingLaws.{denial_more}
use Rattle.rule_lists.proofs.denying.denial_of.Goals as goal

pub loop-i-preserved : goal.loop-i-preserved
loop-i-preserved c = search (rules, denial_more (value_of c.args.bits.now) c.loop-i.i, c.loop-i.invariant, c.get-value.ensures, c.new.ensures, c.push.ensures.items)
