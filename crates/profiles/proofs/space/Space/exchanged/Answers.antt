use Rattle.std.proofs.Common.{◌<◌, ◌≤◌, ◌∙◌, sym, arith, eqb-true}
use Rattle.vocab.specs.Size.{ballot_count, factorial}
use Rattle.meaning.proofs.BallotLaws.{past_stays}
use Rattle.meaning.proofs.RangeLaws.{swapped_by_place}
use Rattle.profiles.proofs.space.Space.exchanged.Goals as goal

pub returns-then-cast-ballots : goal.returns-then-cast-ballots
returns-then-cast-ballots c =
    let ballot : c.args.cast < ballot_count c.args.self.now = omega (arith, c.if-cast-ballots.true, c.ballots.ensures.value) in
    let place : c.args.cast < factorial c.args.self.now.alternatives = omega (arith, ballot, eqb-true _ _ c.requires.all) in
    c.from.ensures ∙ c.requires.row c.args.cast place ∙ sym (swapped_by_place c.args.self.now c.requires.all c.args.x c.args.y c.args.cast c.requires.x c.requires.y ballot)

pub returns-else-cast-ballots : goal.returns-else-cast-ballots
returns-else-cast-ballots c =
    let past : ballot_count c.args.self.now ≤ c.args.cast = omega (arith, c.if-cast-ballots.false, c.ballots.ensures.value) in
    sym (past_stays c.args.self.now c.args.x c.args.y c.args.cast past)
