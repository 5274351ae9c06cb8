use Rattle.std.proofs.Common.{◌+◌, ◌*◌, length}
use Rattle.syntax.proofs.parser.+formulas.Given as goal

abbrev pub decreases-formula : goal.decreases-formula
decreases-formula l = 2 * length l.lexemes.now

abbrev pub decreases-quantified : goal.decreases-quantified
decreases-quantified l = 2 * length l.rest.now + 1

abbrev pub decreases-negation : goal.decreases-negation
decreases-negation l = 2 * length l.rest.now + 1

abbrev pub decreases-group : goal.decreases-group
decreases-group l = 2 * length l.rest.now + 1

abbrev pub decreases-chain : goal.decreases-chain
decreases-chain l = 2 * length l.lexemes.now + 1
