use Rattle.std.proofs.Common.{◌≡◌, drop}
use Rattle.std.specs.Cmp.Lexicographic.{pointwise}
use Rattle.std.specs.Str.{bytes_eq}
use Rattle.report_lines.specs.Rest.{words_after}
use Rattle.report_lines.proofs.BallotLemmas.{ballot_words}
use Rattle.report_lines.proofs.ballots.are_all_ballots.Given as goal

abbrev pub invariant-loop-b : goal.invariant-loop-b
invariant-loop-b l = pointwise bytes_eq (words_after l.rest) (ballot_words l.space) ≡ pointwise bytes_eq (words_after l.left) (drop l.b (ballot_words l.space))
