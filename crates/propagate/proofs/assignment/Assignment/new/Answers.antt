use Rattle.std.proofs.Common.{arith, ◌≤◌, ◌<◌, ◌^◌, length}
use Rattle.std.specs.Prelude.{vec_capacity, All}
use Rattle.propagate.specs.Values.{UsesUpTo}
use Rattle.propagate.proofs.TrailLemmas.{IsSound-new}
use Rattle.propagate.proofs.assignment.Assignment.new.Goals as goal

pub invariant_of-result : goal.invariant_of-result
invariant_of-result c =
    let room : c.args.variables ≤ vec_capacity c.in_ok-entries.entries = omega (arith, c.in_ok-entries.ensures.capacity) in
    let count : length c.args.clauses.now.clauses < 2 ^ 32 = omega (arith, c.len-count.ensures.limits.few_clauses) in
    let range : All (UsesUpTo c.args.variables) c.args.clauses.now.clauses = λ i d lt j x short. record { from_one = c.in_ok-store.ensures.from_one i d lt j x short; up_to = c.requires i d lt j x short } in
    rw (c.in_ok-store.ensures.same, c.in_ok-entries.ensures.items) (IsSound-new c.in_ok-marks.marks.items _ c.args.variables c.args.clauses.now.clauses c.in_ok-marks.ensures room (omega arith) count range)
