use Rattle.std.proofs.Common.{arith, sym, ◌∙◌, ◌≡◌, ◌+◌, ◌-◌, get_or, false, Some, None}
use Rattle.cdcl.proofs.Steps.{Here, here, stand_in, entry_here, IsSome-unless, reason_here, forced_here}
use Rattle.cdcl.proofs.Roots.{RootLeads-skip, RootLeads-resolve, root_unseen, root_high, root_is_forced}
use Rattle.cdcl.proofs.analysis.step_root.Goals as goal

pub is_marked-requires : goal.is_marked-requires
is_marked-requires c =
    let h : Here c.args.trail.now c.args.place c.at-lit.result = here _ _ _ c.requires.marks.form c.requires.place (c.at-lit.ensures (stand_in c.at-lit.result)) in
    omega (arith, h.most, c.requires.marks.size)

pub returns-then-not-is_marked-clause-leads : goal.returns-then-not-is_marked-clause-leads
returns-then-not-is_marked-clause-leads c = λ clause leads.
    let h : Here c.args.trail.now c.args.place c.at-lit.result = here _ _ _ c.requires.marks.form c.requires.place (c.at-lit.ensures (stand_in c.at-lit.result)) in
    let at : c.variable-v.result - 1 + 1 ≡ c.at-lit.result.variable = omega arith in
    let unseen : get_or c.args.seen.now (c.variable-v.result - 1) false ≡ false = sym c.is_marked.ensures ∙ c.if-not-is_marked.true in
    RootLeads-skip c.args.trail.now c.args.place c.args.seen.now clause c.args.hints.now.items (stand_in c.at-lit.result) c.requires.place (root_unseen _ _ _ _ _ h at unseen) leads

pub returns-then-not-is_at_root-clause-leads : goal.returns-then-not-is_at_root-clause-leads
returns-then-not-is_at_root-clause-leads c = λ clause leads.
    let h : Here c.args.trail.now c.args.place c.at-lit.result = here _ _ _ c.requires.marks.form c.requires.place (c.at-lit.ensures (stand_in c.at-lit.result)) in
    let high = c.is_at_root.ensures.no (entry_here c.args.trail.now c.args.place c.at-lit.result) (rw c.variable-v.ensures.value h.found) c.if-not-is_at_root.true in
    RootLeads-skip c.args.trail.now c.args.place c.args.seen.now clause c.args.hints.now.items (stand_in c.at-lit.result) c.requires.place (root_high c.args.trail.now c.args.place c.at-lit.result c.args.seen.now high) leads

pub unwrap-k-requires : goal.unwrap-k-requires
unwrap-k-requires c =
    let h : Here c.args.trail.now c.args.place c.at-lit.result = here _ _ _ c.requires.marks.form c.requires.place (c.at-lit.ensures (stand_in c.at-lit.result)) in
    let root : (entry_here c.args.trail.now c.args.place c.at-lit.result).level ≡ 0 = c.is_at_root.ensures.yes (entry_here c.args.trail.now c.args.place c.at-lit.result) (rw c.variable-v.ensures.value h.found) c.if-not-is_at_root.false in
    IsSome-unless c.reason.result (λ none. root_is_forced c.args.trail.now c.args.place (stand_in c.at-lit.result) c.requires.marks.form c.requires.place root
    (reason_here c.args.trail.now c.args.place c.at-lit.result None h (rw (← c.variable-v.ensures.value) (sym none ∙ c.reason.ensures))))

pub clause-requires : goal.clause-requires
clause-requires c =
    let h : Here c.args.trail.now c.args.place c.at-lit.result = here _ _ _ c.requires.marks.form c.requires.place (c.at-lit.ensures (stand_in c.at-lit.result)) in
    let forced : (entry_here c.args.trail.now c.args.place c.at-lit.result).reason ≡ Some c.unwrap-k.result = reason_here c.args.trail.now c.args.place c.at-lit.result (Some c.unwrap-k.result) h (rw (← c.variable-v.ensures.value) (sym c.unwrap-k.ensures ∙ c.reason.ensures)) in
    (forced_here c.args.trail.now c.args.place c.unwrap-k.result c.at-lit.result c.requires.marks.form h forced).0

pub returns-clause-leads : goal.returns-clause-leads
returns-clause-leads c = λ clause leads.
    let h : Here c.args.trail.now c.args.place c.at-lit.result = here _ _ _ c.requires.marks.form c.requires.place (c.at-lit.ensures (stand_in c.at-lit.result)) in
    let root : (entry_here c.args.trail.now c.args.place c.at-lit.result).level ≡ 0 = c.is_at_root.ensures.yes (entry_here c.args.trail.now c.args.place c.at-lit.result) (rw c.variable-v.ensures.value h.found) c.if-not-is_at_root.false in
    let forced : (entry_here c.args.trail.now c.args.place c.at-lit.result).reason ≡ Some c.unwrap-k.result = reason_here c.args.trail.now c.args.place c.at-lit.result (Some c.unwrap-k.result) h (rw (← c.variable-v.ensures.value) (sym c.unwrap-k.ensures ∙ c.reason.ensures)) in
    let f = forced_here c.args.trail.now c.args.place c.unwrap-k.result c.at-lit.result c.requires.marks.form h forced in
    rw c.in_ok-push.ensures.items (RootLeads-resolve c.args.trail.now c.args.place c.args.seen.now c.mark_all.new.seen clause c.args.hints.now.items c.unwrap-k.result c.at-lit.result c.requires.marks.form h root f.0 f.1
    c.mark_all.ensures.more (rw c.clause.ensures.literals at c.mark_all.ensures.marked) leads)
