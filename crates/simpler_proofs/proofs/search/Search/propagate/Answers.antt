use Rattle.std.proofs.Common.{arith}
use Rattle.std.proofs.lemmas.Bool.{le-leb}
use Rattle.simpler_proofs.specs.Made.{has_at_most}
use Rattle.simpler_proofs.proofs.Passing.{over_propagated}
use Rattle.simpler_proofs.proofs.search.Search.propagate.Goals as goal

pub invariant_of-self-clause-over : goal.invariant_of-self-clause-over
invariant_of-self-clause-over c =
    let s = c.args.self.now in
    let new = c.propagate.new.self in
    over_propagated s.draft.marked.trail.variables new.marked.trail.variables s.draft.lines.items new.lines.items c.propagate.ensures.variables s.over c.propagate.ensures.passes

pub invariant_of-self-clause-short : goal.invariant_of-self-clause-short
invariant_of-self-clause-short c =
    let s = c.args.self.now in
    c.propagate.ensures.passes (has_at_most s.most) (le-leb 0 s.most (omega (arith, s.least))) s.short
