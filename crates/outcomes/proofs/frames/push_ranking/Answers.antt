use Rattle.std.proofs.Common.{rules, ◌<◌, [], subst, length, arith}
use Rattle.cnf.specs.ClauseList.{ClauseList}
use Rattle.meaning.specs.Variables.{triples}
use Rattle.outcomes.specs.Frames.{IsFullForAll}
use Rattle.outcomes.specs.Places.{triple_at}
use Rattle.outcomes.specs.Rows.{no_round}
use Rattle.outcomes.proofs.Growth.{full_next}
use Rattle.outcomes.proofs.frames.push_ranking.Goals as goal

pub returns-in_err-push_no_round-clause-full : goal.returns-in_err-push_no_round-clause-full
returns-in_err-push_no_round-clause-full c = λ e.
    let m = c.args.at.alternatives.number in
    let f = no_round m c.args.at.profile in
    let inside : c.loop-place.place < length (triples m) = omega arith in
    let here = c.in_err-push_no_round.ensures.full (search rules) in
    let Full : ClauseList → Type 0 = λ out. IsFullForAll out (f (triple_at m c.loop-place.place)) in
    full_next [] f (triples m) c.args.out.now c.args.at.profile c.loop-place.place (0, 0, 0) inside (subst Full c.loop-place.invariant here)
