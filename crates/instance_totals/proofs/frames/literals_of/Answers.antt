use Rattle.std.proofs.Common.{◌∙◌, ap, ◌+◌, ◌<◌, length, List, [], take_all, sum_by, arith}
use Rattle.std.proofs.lemmas.List.Sums.{sum_by_more, sum_by-take-le}
use Rattle.cnf.specs.Sat.{Clause}
use Rattle.instance_totals.proofs.frames.literals_of.Goals as goal

pub overflow_add-literals : goal.overflow_add-literals
overflow_add-literals c =
    let xs : List Clause = c.args.clauses.now.clauses in
    let k = c.loop-place.place in
    let within : k < length xs = rw c.len-place-end.ensures.value at c.loop-place-test.true in
    let more = sum_by_more length xs k [] within in
    let most = sum_by-take-le length xs (k + 1) in
    let small = c.len-place-end.ensures.limits.few_literals in
    let here = ap length c.get.ensures in
    omega (arith, c.loop-place.invariant, more, most, small, here)

pub loop-place-preserved : goal.loop-place-preserved
loop-place-preserved c =
    let xs : List Clause = c.args.clauses.now.clauses in
    let k = c.loop-place.place in
    let within : k < length xs = rw c.len-place-end.ensures.value at c.loop-place-test.true in
    let more = sum_by_more length xs k [] within in
    let here = ap length c.get.ensures in
    omega (arith, c.loop-place.invariant, more, here)

pub returns : goal.returns
returns c =
    let xs : List Clause = c.args.clauses.now.clauses in
    c.loop-place.invariant ∙ ap (λ (ys : List Clause). sum_by length ys) (take_all c.loop-place.place xs (omega (arith, c.len-place-end.ensures.value, c.loop-place-test.false)))
