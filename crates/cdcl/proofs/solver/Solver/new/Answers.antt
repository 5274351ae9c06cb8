use Rattle.std.proofs.Common.{arith, ap, ◌≡◌, ◌∙◌, false, length}
use Rattle.std.specs.Prelude.{Bool, List}
use Rattle.std.proofs.lemmas.List.{length-replicate}
use Rattle.propagate.specs.TrailState.{TrailState}
use Rattle.cdcl.proofs.solver.Solver.new.Goals as goal

pub invariant_of-result : goal.invariant_of-result
invariant_of-result c =
    let level : c.in_ok-trail.trail.level ≡ 0 = ap (λ (t : TrailState). t.level) c.in_ok-trail.ensures.state in
    record {
      form = c.in_ok-trail.ensures.form;
      rests = record { at_rest = λ j lt. absurd (omega (arith, lt, level)) };
      all = record { variables = c.in_ok-order.ensures.variables; held = λ w lt none. c.in_ok-order.ensures.held w lt };
      marks = ap (λ (bs : List Bool). length bs) c.in_ok-seen.ensures ∙ length-replicate c.args.variables false;
      over = ap (λ (t : TrailState). t.variables) c.in_ok-trail.ensures.state;
      few = c.requires.few;
    }
