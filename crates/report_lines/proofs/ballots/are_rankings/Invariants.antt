use Rattle.std.proofs.Common.{◌≡◌, length}
use Rattle.report_lines.specs.Rest.{words_after}
use Rattle.report_lines.proofs.BallotLemmas.{are_rankings}
use Rattle.report_lines.proofs.ballots.are_rankings.Given as goal

abbrev pub invariant-loop-word : goal.invariant-loop-word
invariant-loop-word l = are_rankings l.space.alternatives (words_after l.rest) ≡ are_rankings l.space.alternatives (words_after l.left)

abbrev pub decreases-loop-word : goal.decreases-loop-word
decreases-loop-word l = length l.left
