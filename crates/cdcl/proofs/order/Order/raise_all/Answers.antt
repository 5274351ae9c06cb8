use Rattle.std.proofs.Common.{arith, ◌∙◌, ◌-◌, ℕ, List, ap, sym}
use Rattle.std.proofs.lemmas.List.{take_all}
use Rattle.cnf.specs.Signed.{Signed}
use Rattle.cdcl.specs.Order.{raised, raised_by}
use Rattle.cdcl.proofs.OrderLemmas.{raised_by_more}
use Rattle.cdcl.proofs.order.Order.raise_all.Goals as goal

pub loop-lit-preserved : goal.loop-lit-preserved
loop-lit-preserved c = record {
  size = c.raise.ensures.variables ∙ c.loop-lit.invariant.size;
  held = λ w h. c.raise.ensures.held w (c.loop-lit.invariant.held w h);
  activity = c.raise.ensures.activity ∙ ap (λ (v : ℕ). raised c.loop-lit.self.activity (v - 1)) c.variable.ensures.value
      ∙ ap (λ (xs : List ℕ). raised xs (c.lit-item.result.variable - 1)) c.loop-lit.invariant.activity
      ∙ sym (raised_by_more c.args.self.now.activity c.args.clause.now c.loop-lit.lit-index c.lit-item.result (omega arith) (sym c.lit-item.is));
}

pub returns : goal.returns
returns c = record {
  variables = c.loop-lit.invariant.size;
  held = c.loop-lit.invariant.held;
  activity = c.loop-lit.invariant.activity ∙ ap (λ (ls : List Signed). raised_by c.args.self.now.activity ls) (take_all c.loop-lit.lit-index c.args.clause.now (omega arith));
}
