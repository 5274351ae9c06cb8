use Rattle.std.proofs.Common.{◌≤◌, length, false, []}
use Rattle.propagate.specs.TrailState.{TrailState}
use Rattle.propagate.proofs.Levels.{IsByLevel-from_follows, IsEachNew-from_follows, IsSound-cut}
use Rattle.propagate.proofs.assignment.Assignment.back_to.Goals as goal

pub cut_back-requires-clause-each_new : goal.cut_back-requires-clause-each_new
cut_back-requires-clause-each_new c = IsEachNew-from_follows c.self.inside.clauses c.self.inside.entries.items c.self.invariant.form.follows

pub cut_back-requires-clause-by_level : goal.cut_back-requires-clause-by_level
cut_back-requires-clause-by_level c = IsByLevel-from_follows c.self.inside.clauses c.self.inside.entries.items c.self.invariant.form.follows

pub invariant_of-self : goal.invariant_of-self
invariant_of-self c =
    let t : TrailState = record { clauses = c.self.inside.clauses; variables = length c.self.inside.marks.items; entries = c.self.inside.entries.items; level = c.self.inside.level; propagated = c.self.inside.propagated; watches = [] } in
    let below : c.args.level ≤ t.level = rw (← c.self.view_is) at c.requires in
    rw c.cut_back.ensures.marks (IsSound-cut c.self.inside.marks.items c.cut_back.new.marks.items _ _ t c.cut_back.new.entries.items c.args.level false c.self.invariant c.cut_back.ensures.kept
    c.cut_back.ensures.marks c.cut_back.ensures.room c.cut_back.ensures.entries c.cut_back.ensures.front below)

pub returns-clause-form : goal.returns-clause-form
returns-clause-form c = (invariant_of-self c).form
