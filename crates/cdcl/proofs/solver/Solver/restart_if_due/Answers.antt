use Rattle.std.proofs.Common.{arith, ap, inl, inr, refl, subst, sym, Bool, ℕ}
use Rattle.propagate.specs.TrailState.{TrailState, IsTrail}
use Rattle.propagate.proofs.Holding.{levels_at_most}
use Rattle.cdcl.specs.Luby.{Counts}
use Rattle.cdcl.specs.Search.{KeepsSigns}
use Rattle.cdcl.specs.Solver.{SolverState}
use Rattle.cdcl.proofs.solver.Solver.restart_if_due.Goals as goal

pub returns-then-not-is_due : goal.returns-then-not-is_due
returns-then-not-is_due c =
    let form : IsTrail c.args.self.now.trail = subst (λ (s : SolverState). IsTrail s.trail) c.self.view_is c.self.invariant.form in
    record {
      restarted = inr (subst (λ (b : Bool). Counts c.args.restarts.now c.is_due.new.self b) c.if-not-is_due.true c.is_due.ensures.due, refl);
      form = form;
      activity = refl;
      signs = λ j d lt above. let most = levels_at_most c.args.self.now.trail form j d lt in absurd (omega (arith, most, above));
    }

pub returns : goal.returns
returns c = record {
  restarted = inl (subst (λ (b : Bool). Counts c.args.restarts.now c.is_due.new.self b) c.if-not-is_due.false c.is_due.ensures.due, c.go_back.ensures.state);
  form = c.go_back.ensures.form;
  activity = c.go_back.ensures.activity;
  signs = subst (λ (n : ℕ). KeepsSigns c.args.self.now.trail n c.go_back.new.self.order) (sym (ap (λ (t : TrailState). t.level) c.go_back.ensures.state)) c.go_back.ensures.signs;
}
