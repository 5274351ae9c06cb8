use Rattle.vocab.proofs.Ranges.{goes_on}
use Rattle.study_hints.specs.Values.{ballot_constant}
use Rattle.study_hints.proofs.values.put_ballots.Goals as goal

pub loop-b-preserved : goal.loop-b-preserved
loop-b-preserved c = goes_on (ballot_constant c.args.space.now) _ _ _ _ c.loop-b.invariant c.in_ok-put_ballot.ensures
