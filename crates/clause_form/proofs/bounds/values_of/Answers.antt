use Rattle.std.proofs.Common.{◌≤◌, arith}
use Rattle.vocab.specs.Size.{sort_count}
use Rattle.worlds.proofs.SortLemmas.{sort_has_values}
use Rattle.clause_form.proofs.bounds.values_of.Goals as goal

pub returns-clause-some : goal.returns-clause-some
returns-clause-some c =
    let some : 1 ≤ sort_count c.args.size c.args.sort = sort_has_values c.args.size c.requires c.args.sort in
    omega (arith, c.sort_len.ensures)
