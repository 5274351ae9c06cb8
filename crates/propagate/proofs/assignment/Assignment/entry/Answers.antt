use Rattle.std.proofs.Common.{arith, sym, inl, inr}
use Rattle.propagate.proofs.EntryLemmas.{no_entry_out_of_range}
use Rattle.propagate.proofs.assignment.Assignment.entry.Goals as goal

pub returns-then-variable-eq0 : goal.returns-then-variable-eq0
returns-then-variable-eq0 c = rw (← c.self.view_is) (sym (no_entry_out_of_range _ c.self.inside.entries.items c.args.variable c.self.invariant.form.in_range (inl c.if-variable-eq0.true)))

pub returns-then-variable-marks : goal.returns-then-variable-marks
returns-then-variable-marks c = rw (← c.self.view_is) (sym (no_entry_out_of_range _ c.self.inside.entries.items c.args.variable c.self.invariant.form.in_range (inr (omega arith))))
