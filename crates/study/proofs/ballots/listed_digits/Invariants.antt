use Rattle.study.proofs.ListedBallots.{AreTaken}
use Rattle.study.proofs.ballots.listed_digits.Given as goal

abbrev pub invariant-loop-text : goal.invariant-loop-text
invariant-loop-text l = AreTaken l.alternatives.number l.texts l.text-index l.ballots
