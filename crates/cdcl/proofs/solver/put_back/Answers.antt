use Rattle.std.proofs.Common.{arith, ◌≡◌, ◌≤◌, ◌-◌, ◌∙◌, ap, Some, get_or, set, Bool}
use Rattle.cnf.specs.Signed.{Signed}
use Rattle.propagate.specs.TrailState.{TrailState, IsInRange}
use Rattle.cdcl.proofs.Offers.{HasAll-cut, PutBack-more, level_there, low_before, signs_kept, stand_in}
use Rattle.cdcl.proofs.solver.put_back.Goals as goal

pub returns-in_default : goal.returns-in_default
returns-in_default c =
    let t : TrailState = c.args.trail.now in
    let some : c.level_of.result ≡ Some (get_or t.entries (c.undoing.place - 1) stand_in).level = level_there t c.undoing.place c.variable.result c.at-lit.result c.level_of.result c.len-place.ensures.form (omega (arith, c.undoing-test.true)) c.undoing.invariant.place c.at-lit.ensures c.variable.ensures.value c.level_of.ensures in
    absurd (c.in_default.not-Some _ some)

pub returns-then-own-level-clause-all : goal.returns-then-own-level-clause-all
returns-then-own-level-clause-all c =
    let t : TrailState = c.args.trail.now in
    let least : 1 ≤ c.undoing.place = omega (arith, c.undoing-test.true) in
    let some : c.level_of.result ≡ Some (get_or t.entries (c.undoing.place - 1) stand_in).level = level_there t c.undoing.place c.variable.result c.at-lit.result c.level_of.result c.len-place.ensures.form least c.undoing.invariant.place c.at-lit.ensures c.variable.ensures.value c.level_of.ensures in
    let own : c.in-Some.own ≡ (get_or t.entries (c.undoing.place - 1) stand_in).level = (let q = c.in-Some.is in cc) in
    HasAll-cut t c.args.order.now c.undoing.order c.undoing.place c.args.level c.args.trail.now.variables c.requires c.undoing.invariant.back c.undoing.invariant.size
    (low_before t c.undoing.place c.args.level c.len-place.ensures.form least c.undoing.invariant.place (omega (arith, c.if-own-level.true)))

pub put_back-requires-clause-high : goal.put_back-requires-clause-high
put_back-requires-clause-high c =
    let t : TrailState = c.args.trail.now in
    let range : IsInRange t.variables (get_or t.entries (c.undoing.place - 1) stand_in) = c.len-place.ensures.form.in_range (c.undoing.place - 1) stand_in (omega (arith, c.undoing.invariant.place, c.undoing-test.true)) in
    let at : c.at-lit.result.variable ≡ (get_or t.entries (c.undoing.place - 1) stand_in).literal.variable = ap (λ (l : Signed). l.variable) (c.at-lit.ensures stand_in) in
    omega (arith, range.most, c.undoing.invariant.size, c.variable-in-undoing.ensures.value)

pub returns-clause-all : goal.returns-clause-all
returns-clause-all c = HasAll-cut c.args.trail.now c.args.order.now c.undoing.order c.undoing.place c.args.level c.args.trail.now.variables c.requires c.undoing.invariant.back c.undoing.invariant.size (λ j d before lt. absurd (omega (arith, c.undoing-test.false)))

pub returns-then-own-level-clause-signs : goal.returns-then-own-level-clause-signs
returns-then-own-level-clause-signs c =
    let t : TrailState = c.args.trail.now in
    let least : 1 ≤ c.undoing.place = omega (arith, c.undoing-test.true) in
    let some : c.level_of.result ≡ Some (get_or t.entries (c.undoing.place - 1) stand_in).level = level_there t c.undoing.place c.variable.result c.at-lit.result c.level_of.result c.len-place.ensures.form least c.undoing.invariant.place c.at-lit.ensures c.variable.ensures.value c.level_of.ensures in
    let own : c.in-Some.own ≡ (get_or t.entries (c.undoing.place - 1) stand_in).level = (let q = c.in-Some.is in cc) in
    signs_kept t c.args.order.now c.undoing.order c.undoing.place c.args.level c.undoing.invariant.back (low_before t c.undoing.place c.args.level c.len-place.ensures.form least c.undoing.invariant.place (omega (arith, c.if-own-level.true)))

pub returns-clause-signs : goal.returns-clause-signs
returns-clause-signs c = signs_kept c.args.trail.now c.args.order.now c.undoing.order c.undoing.place c.args.level c.undoing.invariant.back (λ j d before lt. absurd (omega (arith, c.undoing-test.false)))

pub undoing-preserved : goal.undoing-preserved
undoing-preserved c = record {
  size = c.put_back.ensures.variables ∙ c.undoing.invariant.size;
  place = omega (arith, c.undoing.invariant.place);
  activity = c.put_back.ensures.activity ∙ c.undoing.invariant.activity;
  back = PutBack-more c.args.trail.now c.args.order.now c.undoing.order c.put_back.new.self c.undoing.place c.variable-in-undoing.result c.at-lit.result c.len-place.ensures.form (omega (arith, c.undoing-test.true)) c.undoing.invariant.place c.undoing.invariant.back c.at-lit.ensures c.variable-in-undoing.ensures.value
      c.put_back.ensures.held c.put_back.ensures.now (c.put_back.ensures.phases ∙ ap (λ (b : Bool). set c.undoing.order.phases (c.variable-in-undoing.result - 1) b) c.positive.ensures)
      (c.put_back.ensures.sign ∙ c.positive.ensures);
}
