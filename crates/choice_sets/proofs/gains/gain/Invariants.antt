use Rattle.std.proofs.Common.{◌≡◌}
use Rattle.vocab.specs.declared.kinds.Sort.TheVariants.{Profile}
use Rattle.vocab.specs.Size.{sort_count}
use Rattle.choice_sets.specs.Gains.{gains, of_profile}
use Rattle.choice_sets.proofs.FirstLemmas.{first_from}
use Rattle.choice_sets.proofs.gains.gain.Given as goal

abbrev pub invariant-loop-profile : goal.invariant-loop-profile
invariant-loop-profile l =
    let size = l.kind.space in
    let first = first_from (gains size l.table) (of_profile size) (sort_count size Profile) in
    first l.profile ≡ first 0
