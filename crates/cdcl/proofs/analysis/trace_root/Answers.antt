use Rattle.std.proofs.Common.{arith, subst, ◌≡◌, ◌∙◌, ◌+◌, ◌-◌, ℕ}
use Rattle.cdcl.specs.Analysis.{RootLeads}
use Rattle.cdcl.proofs.analysis.trace_root.Goals as goal

pub tracing-preserved : goal.tracing-preserved
tracing-preserved c =
    let same : c.tracing.place ≡ c.tracing.place - 1 + 1 = omega (arith, c.tracing-test.true) in
    record {
      variables = c.in_ok-step_root.ensures.size ∙ c.tracing.invariant.variables;
      place = omega (arith, c.tracing.invariant.place);
      leads = λ clause leads. c.in_ok-step_root.ensures.leads clause
          (subst (λ (p : ℕ). RootLeads c.args.trail.now p c.tracing.seen clause c.tracing.hints.items) same (c.tracing.invariant.leads clause leads));
    }

pub returns-clause-leads : goal.returns-clause-leads
returns-clause-leads c = λ clause leads.
    let zero : c.tracing.place ≡ 0 = omega (arith, c.tracing-test.false) in
    subst (λ (p : ℕ). RootLeads c.args.trail.now p c.tracing.seen clause c.tracing.hints.items) zero (c.tracing.invariant.leads clause leads)
