use Rattle.std.proofs.Common.{arith, refl, ap, sym, subst, ◌≡◌, ◌∙◌, ◌+◌, ℕ, None}
use Rattle.propagate.specs.TrailState.{TrailState}
use Rattle.cdcl.specs.Order.{HasAll}
use Rattle.cdcl.specs.Search.{Assigns}
use Rattle.cdcl.specs.Solver.{SolverState}
use Rattle.cdcl.proofs.Offers.{HasAll-propagate, HasAll-decide}
use Rattle.cdcl.proofs.Whole.{IsSolver-propagate, IsSolver-complete}
use Rattle.cdcl.proofs.Assigning.{Assigns-propagate, Assigns-decide}
use Rattle.cdcl.proofs.solver.Solver.propagate_and_decide.Goals as goal

pub deciding-init : goal.deciding-init
deciding-init c = record {
  assigns = record {
    form = c.self.invariant.form;
    rests = c.self.invariant.rests;
    clauses = ap (λ (s : SolverState). s.trail.clauses) c.self.view_is;
    variables = ap (λ (s : SolverState). s.trail.variables) c.self.view_is;
  };
  keeps = c.self.invariant;
  activity = ap (λ (s : SolverState). s.order.activity) c.self.view_is;
  signs = ap (λ (s : SolverState). s.order.phases) c.self.view_is;
}

pub returns-in-Conflict-clause-assigns : goal.returns-in-Conflict-clause-assigns
returns-in-Conflict-clause-assigns c = Assigns-propagate c.args.self.now.trail c.deciding.self-inside.trail c.propagate.new.self c.deciding.invariant.assigns c.propagate.ensures.form c.propagate.ensures.grows

pub returns-in-None-clause-assigns : goal.returns-in-None-clause-assigns
returns-in-None-clause-assigns c = Assigns-propagate c.args.self.now.trail c.deciding.self-inside.trail c.propagate.new.self c.deciding.invariant.assigns c.propagate.ensures.form c.propagate.ensures.grows

pub deciding-preserved : goal.deciding-preserved
deciding-preserved c =
    let over : c.propagate.new.self.variables ≡ c.deciding.self-inside.variables = c.propagate.ensures.grows.variables ∙ c.deciding.invariant.keeps.over in
    let decided : Assigns c.args.self.now.trail c.decide.new.self =
    Assigns-decide c.args.self.now.trail c.propagate.new.self c.decide.new.self _
    (Assigns-propagate c.args.self.now.trail c.deciding.self-inside.trail c.propagate.new.self c.deciding.invariant.assigns c.propagate.ensures.form c.propagate.ensures.grows)
    c.in-Closed.ensures.outcome.0 refl c.decide.ensures.form c.decide.ensures.state in
    record {
      assigns = decided;
      keeps = record {
        form = c.decide.ensures.form;
        rests = decided.rests;
        all = subst (λ (n : ℕ). HasAll c.decide.new.self c.choose.new.order n) over
            (HasAll-decide c.propagate.new.self c.decide.new.self c.choose.new.order (record { literal = c.in-Some.lit; level = c.propagate.new.self.level + 1; reason = None }) c.propagate.new.self.variables c.in-Some.lit.variable c.in-Some.ensures.variables
            c.in-Some.ensures.some.0 refl c.in-Some.ensures.some.2 (ap (λ (t : TrailState). t.entries) c.decide.ensures.state) c.in-Some.ensures.others);
        marks = c.deciding.invariant.keeps.marks;
        over = ap (λ (t : TrailState). t.variables) c.decide.ensures.state ∙ over;
        few = c.deciding.invariant.keeps.few;
      };
      activity = c.in-Some.ensures.activity ∙ c.deciding.invariant.activity;
      signs = c.in-Some.ensures.signs ∙ c.deciding.invariant.signs;
    }

pub choose-requires : goal.choose-requires
choose-requires c =
    let over : c.propagate.new.self.variables ≡ c.deciding.self-inside.variables = c.propagate.ensures.grows.variables ∙ c.deciding.invariant.keeps.over in
    record {
      few = omega (arith, over, c.deciding.invariant.keeps.few);
      all = subst (λ (n : ℕ). HasAll c.propagate.new.self c.deciding.self-inside.order n) (sym over)
          (HasAll-propagate c.deciding.self-inside.trail c.propagate.new.self c.deciding.self-inside.order c.deciding.self-inside.variables c.propagate.ensures.grows c.deciding.invariant.keeps.all);
    }

pub invariant_of-self : goal.invariant_of-self
invariant_of-self c = IsSolver-propagate c.deciding.self-inside.trail c.propagate.new.self c.deciding.self-inside.order c.deciding.self-inside.seen c.deciding.self-inside.variables c.deciding.invariant.keeps c.propagate.ensures.form c.propagate.ensures.grows

pub invariant_of-self-in-None : goal.invariant_of-self-in-None
invariant_of-self-in-None c =
    let whole = IsSolver-propagate c.deciding.self-inside.trail c.propagate.new.self c.deciding.self-inside.order c.deciding.self-inside.seen c.deciding.self-inside.variables c.deciding.invariant.keeps c.propagate.ensures.form c.propagate.ensures.grows in
    IsSolver-complete c.propagate.new.self c.deciding.self-inside.order c.choose.new.order c.deciding.self-inside.seen c.deciding.self-inside.variables whole c.in-None.ensures.none (c.choose.ensures.variables ∙ whole.over)
