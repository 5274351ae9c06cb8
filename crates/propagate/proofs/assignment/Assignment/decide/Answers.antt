use Rattle.std.proofs.Common.{arith, ◌≡◌, ◌≤◌, length, None}
use Rattle.std.proofs.lemmas.List.Sums.{count_by-le-length}
use Rattle.std.specs.Prelude.{is_none}
use Rattle.propagate.specs.declared.entry.Entry.{Entry}
use Rattle.propagate.specs.Entries.{entry_of}
use Rattle.propagate.proofs.KeptLemmas.{room_for_variable}
use Rattle.propagate.proofs.EntryLemmas.{no_entry_from_value}
use Rattle.propagate.proofs.assignment.Assignment.decide.Goals as goal

pub put-requires-clause-unassigned : goal.put-requires-clause-unassigned
put-requires-clause-unassigned c = no_entry_from_value c.self.inside.entries.items c.args.lit.variable (rw (← c.self.view_is) at c.requires.unassigned)

pub overflow_add-level : goal.overflow_add-level
overflow_add-level c =
    let none : entry_of c.self.inside.entries.items c.args.lit.variable ≡ None = no_entry_from_value c.self.inside.entries.items c.args.lit.variable (rw (← c.self.view_is) at c.requires.unassigned) in
    let most : c.args.lit.variable ≤ length c.self.inside.marks.items = rw (← c.self.view_is) at c.requires.variable in
    omega (
      arith,
      c.self.invariant.form.level,
      count_by-le-length (λ (e : Entry). is_none e.reason) c.self.inside.entries.items,
      room_for_variable _ c.self.inside.entries.items c.args.lit.variable c.self.invariant.kept (omega arith) most none,
    )
