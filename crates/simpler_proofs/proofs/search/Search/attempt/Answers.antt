use Rattle.simpler_proofs.proofs.Passing.{over_left, short_left}
use Rattle.simpler_proofs.proofs.search.Search.attempt.Goals as goal

pub invariant_of-self-clause-over : goal.invariant_of-self-clause-over
invariant_of-self-clause-over c =
    let s = c.args.self.now in
    let new = c.shorten.new.self in
    over_left s.draft.marked.trail.variables new.marked.trail.variables s.draft.lines.items new.lines.items c.args.clause.now c.shorten.ensures.variables (c.are_open.ensures c.if-not-are_open.false) s.over c.shorten.ensures.passes

pub invariant_of-self-clause-short : goal.invariant_of-self-clause-short
invariant_of-self-clause-short c =
    let s = c.args.self.now in
    let new = c.shorten.new.self in
    short_left s.most s.draft.lines.items new.lines.items c.args.clause.now c.requires.short s.short c.shorten.ensures.passes
