use Rattle.std.proofs.Common.{◌≡◌, ◌-◌, length}
use Rattle.cdcl.specs.Search.{Assigns}
use Rattle.cdcl.specs.Solver.{IsSolver}
use Rattle.cdcl.proofs.solver.Solver.propagate_and_decide.Given as goal

abbrev pub invariant-deciding : goal.invariant-deciding
invariant-deciding l = record {
  assigns : Assigns l.fn.self.trail l.self-inside.trail;
  keeps : IsSolver l.self-inside.trail l.self-inside.order l.self-inside.seen l.self-inside.variables;
  activity : l.self-inside.order.activity ≡ l.fn.self.order.activity;
  signs : l.self-inside.order.phases ≡ l.fn.self.order.phases;
}

abbrev pub decreases-deciding : goal.decreases-deciding
decreases-deciding l = l.self-inside.trail.variables - length l.self-inside.trail.entries
