use Rattle.std.proofs.Common.{arith, sym, ◌∙◌, ◌<◌, length, [], ◌∷◌, ◌++◌, refl, false}
use Rattle.propagate.specs.Values.{IsLastLeft}
use Rattle.propagate.specs.TrailState.{TrailState, IsInRange, known, clause_at}
use Rattle.propagate.specs.declared.entry.Entry.{Entry}
use Rattle.propagate.specs.Kept.{IsKept}
use Rattle.propagate.proofs.EntryLemmas.{no_entry_from_value}
use Rattle.propagate.proofs.TrailLemmas.{IsSound-push, Follows-forced, in_range-forced, forced, decided_count-forced}
use Rattle.propagate.proofs.assignment.Assignment.force.Goals as goal

pub put-requires-clause-unassigned : goal.put-requires-clause-unassigned
put-requires-clause-unassigned c = no_entry_from_value c.self.inside.entries.items c.args.lit.variable (rw (← c.self.view_is) at c.requires.unit.unassigned)

pub invariant_of-self : goal.invariant_of-self
invariant_of-self c =
    let t : TrailState = record { clauses = c.self.inside.clauses; variables = length c.self.inside.marks.items; entries = c.self.inside.entries.items; level = c.self.inside.level; propagated = c.self.inside.propagated; watches = [] } in
    let within : c.args.k < length t.clauses = rw (← c.self.view_is) at c.requires.clause in
    let unit : IsLastLeft (known t) (clause_at t c.args.k) c.args.lit = rw (← c.self.view_is) at c.requires.unit in
    let e : Entry = forced t c.args.lit c.args.k in
    let range : IsInRange t.variables e = record { least = omega arith; most = in_range-forced t c.args.lit c.args.k c.self.invariant.form within unit.member } in
    let kept : IsKept c.put.new.marks.items (t.entries ++ e ∷ []) = rw c.put.ensures.entries at c.put.ensures.kept in
    rw (c.put.ensures.entries, c.put.ensures.marks)
    (IsSound-push c.self.inside.marks.items c.put.new.marks.items _ _ t e t.level false c.self.invariant kept c.put.ensures.marks c.put.ensures.room range
    (Follows-forced t c.args.lit c.args.k c.self.invariant.form within unit)
    (c.self.invariant.form.level ∙ sym (decided_count-forced t.entries e refl)))
