use Rattle.std.proofs.Common.{◌≤◌, arith}
use Rattle.vocab.specs.Size.{sort_count}
use Rattle.worlds.proofs.SortLemmas.{sort_has_values}
use Rattle.lanes.proofs.plans.last_of.Goals as goal

pub overflow_sub-result : goal.overflow_sub-result
overflow_sub-result c =
    let some : 1 ≤ sort_count c.args.size c.args.sort = sort_has_values c.args.size c.requires c.args.sort in
    omega (arith, c.sort_len.ensures)

pub returns : goal.returns
returns c =
    let some : 1 ≤ sort_count c.args.size c.args.sort = sort_has_values c.args.size c.requires c.args.sort in
    omega (arith, c.sort_len.ensures)
