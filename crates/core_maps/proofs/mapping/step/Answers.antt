use Rattle.std.proofs.Common.{subst}
use Rattle.core_maps.specs.Asking.{IsAsked}
use Rattle.core_maps.proofs.KnownLaws.{core_is_fresh, open_is_fresh, right_impossible, right_open, right_possible, wider_is_fresh}
use Rattle.core_maps.proofs.mapping.step.Goals as goal

pub add_impossible-requires-clause-fresh : goal.add_impossible-requires-clause-fresh
add_impossible-requires-clause-fresh g c =
    let s = c.args.whole.now.study.now in
    let asked = subst (IsAsked s c.args.sets.now c.args.set) c.in-Impossible.is c.in_ok-core.ensures in
    core_is_fresh s c.args.sets.now c.requires.right c.args.set c.requires.uncovered c.in-Impossible.core asked

pub add_possible-requires-clause-fresh : goal.add_possible-requires-clause-fresh
add_possible-requires-clause-fresh g c =
    let s = c.args.whole.now.study.now in
    let asked = subst (IsAsked s c.args.sets.now c.args.set) c.in-Possible.is c.in_ok-core.ensures in
    wider_is_fresh s c.args.sets.now c.requires.right c.args.set c.requires.uncovered c.in-Possible.all asked

pub add_open-requires-clause-fresh : goal.add_open-requires-clause-fresh
add_open-requires-clause-fresh g c =
    let s = c.args.whole.now.study.now in
    let asked = subst (IsAsked s c.args.sets.now c.args.set) c.in-Open.is c.in_ok-core.ensures in
    open_is_fresh s c.args.sets.now c.requires.right c.args.set c.requires.uncovered c.in-Open.part asked.1 asked.2

pub returns-in_ok-add_impossible-in-Impossible-clause-right : goal.returns-in_ok-add_impossible-in-Impossible-clause-right
returns-in_ok-add_impossible-in-Impossible-clause-right g c =
    let s = c.args.whole.now.study.now in
    let asked = subst (IsAsked s c.args.sets.now c.args.set) c.in-Impossible.is c.in_ok-core.ensures in
    right_impossible s c.args.sets.now c.add_impossible.new.self c.in-Impossible.core c.requires.right c.in_ok-add_impossible-in-Impossible.ensures.added asked.2

pub returns-in_ok-add_possible-in-Possible-clause-right : goal.returns-in_ok-add_possible-in-Possible-clause-right
returns-in_ok-add_possible-in-Possible-clause-right g c =
    let s = c.args.whole.now.study.now in
    let asked = subst (IsAsked s c.args.sets.now c.args.set) c.in-Possible.is c.in_ok-core.ensures in
    right_possible s c.args.sets.now c.add_possible.new.self c.in-Possible.all c.requires.right c.in_ok-add_possible-in-Possible.ensures.added asked.2

pub returns-in_ok-add_open-in-Open-clause-right : goal.returns-in_ok-add_open-in-Open-clause-right
returns-in_ok-add_open-in-Open-clause-right g c =
    let s = c.args.whole.now.study.now in
    let asked = subst (IsAsked s c.args.sets.now c.args.set) c.in-Open.is c.in_ok-core.ensures in
    right_open s c.args.sets.now c.add_open.new.self c.in-Open.part c.requires.right c.in_ok-add_open-in-Open.ensures.added asked.3
