use Rattle.std.proofs.Common.{arith, ◌≤◌}
use Rattle.simpler_proofs.proofs.Entries.{variable_within, reason_within}
use Rattle.simpler_proofs.proofs.reasons.MarkedTrail.trace.Goals as goal

pub unmark-requires : goal.unmark-requires
unmark-requires c =
    let s = c.args.self.now in
    let most : c.at-lit.result.variable ≤ s.trail.variables = variable_within s.trail c.args.place c.at-lit.result s.form c.requires c.at-lit.ensures in
    omega (arith, most, s.marks)

pub mark-requires : goal.mark-requires
mark-requires c =
    let s = c.args.self.now in
    let most : c.at-lit.result.variable ≤ s.trail.variables = variable_within s.trail c.args.place c.at-lit.result s.form c.requires c.at-lit.ensures in
    omega (arith, most, s.marks, c.unmark.ensures)

pub clause-requires : goal.clause-requires
clause-requires c = reason_within c.args.self.now.trail c.variable.result c.in-Some.k c.args.self.now.form c.in-Some.ensures

pub unmark-requires-in-Some : goal.unmark-requires-in-Some
unmark-requires-in-Some c =
    let s = c.args.self.now in
    let most : c.at-lit.result.variable ≤ s.trail.variables = variable_within s.trail c.args.place c.at-lit.result s.form c.requires c.at-lit.ensures in
    omega (arith, most, s.marks, c.unmark.ensures, c.mark_all.ensures)
