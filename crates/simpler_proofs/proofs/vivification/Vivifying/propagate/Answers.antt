use Rattle.std.proofs.Common.{refl, ℕ}
use Rattle.simpler_proofs.specs.Made.{is_part_of}
use Rattle.simpler_proofs.proofs.Passing.{over_propagated}
use Rattle.simpler_proofs.proofs.vivification.Vivifying.propagate.Goals as goal

pub invariant_of-self-clause-over : goal.invariant_of-self-clause-over
invariant_of-self-clause-over c =
    let s = c.args.self.now in
    let n : ℕ = s.given.now.formula.now.variables in
    over_propagated n n s.draft.lines.items c.propagate.new.self.lines.items refl s.over c.propagate.ensures.passes

pub invariant_of-self-clause-parts : goal.invariant_of-self-clause-parts
invariant_of-self-clause-parts c =
    let s = c.args.self.now in
    c.propagate.ensures.passes (is_part_of s.given.now.lines.now) refl s.parts
