use Rattle.std.proofs.Common.{arith, ◌<◌, ◌&&◌, ℕ}
use Rattle.std.specs.Prelude.{nat_le}
use Rattle.std.proofs.lemmas.Bool.{and_from, le-leb}
use Rattle.std.proofs.lemmas.List.Sums.{list_all-from_AllPass}
use Rattle.cnf.specs.Signed.{Signed}
use Rattle.simpler_proofs.proofs.search.Search.are_open.Goals as goal

pub returns : goal.returns
returns c = λ _.
    let n : ℕ = c.args.self.now.draft.marked.trail.variables in
    let clause = c.args.clause.now in
    list_all-from_AllPass (λ (l : Signed). nat_le 1 l.variable && nat_le l.variable n) clause (λ k d lt.
    let here : k < c.loop-k.k = omega (arith, lt, c.loop-k-test.false, c.loop-k.invariant.end) in
    and_from _ _ (le-leb _ _ (c.loop-k.invariant.least k d here)) (le-leb _ _ (c.loop-k.invariant.most k d here)))
