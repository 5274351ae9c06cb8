use Rattle.std.proofs.Common.{ap, sym, subst, ◌≤◌, ◌∙◌, ℕ}
use Rattle.propagate.specs.TrailState.{TrailState, cut_to}
use Rattle.cdcl.specs.Order.{HasAll}
use Rattle.cdcl.specs.Search.{RestsBelow, KeepsSigns}
use Rattle.cdcl.specs.Solver.{SolverState}
use Rattle.cdcl.proofs.Rests.{RestsBelow-back}
use Rattle.cdcl.proofs.solver.Solver.go_back.Goals as goal

pub put_back-requires : goal.put_back-requires
put_back-requires c = subst (λ (n : ℕ). HasAll c.self.inside.trail c.self.inside.order n) (sym c.self.invariant.over) c.self.invariant.all

pub back_to-requires : goal.back_to-requires
back_to-requires c = subst (λ (s : SolverState). c.args.level ≤ s.trail.level) (sym c.self.view_is) c.requires

pub invariant_of-self : goal.invariant_of-self
invariant_of-self c =
    let below : c.args.level ≤ c.self.inside.trail.level = subst (λ (s : SolverState). c.args.level ≤ s.trail.level) (sym c.self.view_is) c.requires in
    record {
      form = c.back_to.ensures.form;
      rests = subst RestsBelow (sym c.back_to.ensures.state) (RestsBelow-back c.self.inside.trail c.args.level below c.self.invariant.rests);
      all = subst (λ (t : TrailState). HasAll t c.put_back.new.order c.self.inside.variables) (sym c.back_to.ensures.state)
          (subst (λ (n : ℕ). HasAll (cut_to c.self.inside.trail c.args.level) c.put_back.new.order n) c.self.invariant.over c.put_back.ensures.all);
      marks = c.self.invariant.marks;
      over = ap (λ (t : TrailState). t.variables) c.back_to.ensures.state ∙ c.self.invariant.over;
      few = c.self.invariant.few;
    }

pub returns : goal.returns
returns c = record {
  activity = c.put_back.ensures.activity ∙ ap (λ (s : SolverState). s.order.activity) c.self.view_is;
  signs = subst (λ (s : SolverState). KeepsSigns s.trail c.args.level c.put_back.new.order) c.self.view_is c.put_back.ensures.signs;
  form = c.back_to.ensures.form;
  state = c.back_to.ensures.state ∙ ap (λ (s : SolverState). cut_to s.trail c.args.level) c.self.view_is;
}
