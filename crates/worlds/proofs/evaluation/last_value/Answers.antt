use Rattle.std.proofs.Common.{◌≡◌, ◌≤◌, arith}
use Rattle.vocab.specs.Size.{sort_count}
use Rattle.worlds.proofs.SortLemmas.{sort_has_values}
use Rattle.worlds.proofs.evaluation.last_value.Goals as goal

pub overflow_sub-result : goal.overflow_sub-result
overflow_sub-result c =
    let some : 1 ≤ sort_count c.args.space.now c.args.sort = sort_has_values c.args.space.now c.spaces_have_sizes.ensures c.args.sort in
    let many : c.sort_len.result ≡ sort_count c.args.space.now c.args.sort = rw (← c.size.ensures) c.sort_len.ensures in
    omega (arith, many)

pub returns : goal.returns
returns c =
    let some : 1 ≤ sort_count c.args.space.now c.args.sort = sort_has_values c.args.space.now c.spaces_have_sizes.ensures c.args.sort in
    let many : c.sort_len.result ≡ sort_count c.args.space.now c.args.sort = rw (← c.size.ensures) c.sort_len.ensures in
    omega (arith, many)
