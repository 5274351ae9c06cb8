use Rattle.std.proofs.Common.{rules, ℕ, ◌<◌, [], ◌∷◌, subst, length, arith}
use Rattle.cnf.specs.ClauseList.{ClauseList}
use Rattle.cnf.specs.Sat.{Clause}
use Rattle.std.proofs.Common.{List}
use Rattle.meaning.specs.Variables.{pairs}
use Rattle.outcomes.specs.Frames.{IsFullForAll}
use Rattle.outcomes.specs.Places.{pair_at}
use Rattle.outcomes.specs.Rows.{some_wins, one_loses}
use Rattle.outcomes.proofs.FrameRows.{choice_rows-each}
use Rattle.outcomes.proofs.Growth.{full_next}
use Rattle.outcomes.proofs.frames.push_choice.Goals as goal

pub returns-in_err-push_one_loses-clause-full : goal.returns-in_err-push_one_loses-clause-full
returns-in_err-push_one_loses-clause-full c = λ e.
    let m = c.args.at.alternatives.number in
    let f : ℕ × ℕ → List Clause = λ t. one_loses m c.args.at.profile t ∷ [] in
    let inside : c.loop-place.place < length (pairs m) = omega arith in
    let here = c.in_err-push_one_loses.ensures.full (search rules) in
    let Full : ClauseList → Type 0 = λ out. IsFullForAll out (f (pair_at m c.loop-place.place)) in
    let All : List Clause → Type 0 = λ rows. IsFullForAll c.args.out.now rows in
    subst All (choice_rows-each m c.args.at.profile) (full_next (some_wins m c.args.at.profile ∷ []) f (pairs m) c.args.out.now c.args.at.profile c.loop-place.place (0, 0) inside (subst Full c.loop-place.invariant here))
