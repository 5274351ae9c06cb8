use Rattle.std.proofs.Common.{◌≡◌, [], ◌∷◌}
use Rattle.vocab.specs.declared.kinds.Sort.TheVariants.{Ballot}
use Rattle.vocab.specs.Size.{sort_count}
use Rattle.choice_sets.specs.Gains.{gains}
use Rattle.choice_sets.proofs.FirstLemmas.{first_from}
use Rattle.choice_sets.proofs.gains.gain_of_voter.Given as goal

abbrev pub invariant-loop-ballot : goal.invariant-loop-ballot
invariant-loop-ballot l =
    let first = first_from (gains l.rule.space.now l.rule.table.now) (λ b. record { profile = l.profile; voter = l.voter; ballot = b } ∷ []) (sort_count l.rule.space.now Ballot) in
    first l.ballot ≡ first 0
