use Rattle.std.proofs.Common.{◌≤◌, ℕ, subst}
use Rattle.propagate.proofs.Choices.{chosen_nowhere, chosen_ready, chosen_last}
use Rattle.propagate.proofs.choice.where_to_watch.Goals as goal

pub returns-in-Some-replacement : goal.returns-in-Some-replacement
returns-in-Some-replacement c =
    let f = c.in-Some-replacement.ensures.some in
    rw (c.list_of.ensures.value, c.list_of-in-Some-replacement.ensures.value)
    (chosen_last c.args.assignment.now c.args.clause.now c.args.visited _ c.in-Some-replacement.left _ c.requires.form c.requires.within c.in-Some.ensures f.0 f.1 f.2
    (subst (λ (x : ℕ). 2 ≤ x) c.list_of.ensures.value c.list_of.ensures.least)
    (subst (λ (x : ℕ). 2 ≤ x) c.list_of-in-Some-replacement.ensures.value c.list_of-in-Some-replacement.ensures.least))

pub returns-then-a-eq0 : goal.returns-then-a-eq0
returns-then-a-eq0 c = chosen_nowhere c.args.assignment.now c.args.clause.now c.args.visited c.pick-a.result.0 c.pick-a.result.1 c.requires.form c.requires.learnable c.pick-a.ensures c.if-a-eq0.true

pub returns : goal.returns
returns c = chosen_ready c.args.assignment.now c.args.clause.now c.args.visited c.start.result c.pick-a.result.0 c.pick-a.result.1 c.requires.form c.requires.within c.pick-a.ensures c.if-a-eq0.false c.start.ensures
