use Rattle.std.proofs.Common.{◌≡◌, []}
use Rattle.meaning.specs.Variables.{triples}
use Rattle.outcomes.specs.Frames.{with_clauses}
use Rattle.outcomes.specs.Rows.{no_round}
use Rattle.outcomes.proofs.Growth.{rows_to}
use Rattle.outcomes.proofs.frames.push_ranking.Given as goal

abbrev pub invariant-loop-place : goal.invariant-loop-place
invariant-loop-place l = l.out ≡ with_clauses l.fn.out (rows_to [] (no_round l.at.alternatives.number l.at.profile) (triples l.at.alternatives.number) l.place) l.at.profile
