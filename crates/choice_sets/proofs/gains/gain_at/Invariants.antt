use Rattle.std.proofs.Common.{◌≡◌}
use Rattle.choice_sets.specs.Gains.{gains, of_voter}
use Rattle.choice_sets.proofs.FirstLemmas.{first_from}
use Rattle.choice_sets.proofs.gains.gain_at.Given as goal

abbrev pub invariant-loop-voter : goal.invariant-loop-voter
invariant-loop-voter l =
    let first = first_from (gains l.rule.space.now l.rule.table.now) (of_voter l.rule.space.now l.profile) l.rule.space.now.voters in
    first l.voter ≡ first 0
