use Rattle.std.proofs.Common.{ℕ, ◌∙◌, List, take, arith}
use Rattle.std.specs.List.{flat_map}
use Rattle.tellings.specs.Tellings.{naming}
use Rattle.tellings.specs.declared.tellings.Placed.{Placed}
use Rattle.premises.proofs.UseLemmas.{named_then, flat_map_more, flat_map_whole}
use Rattle.premises.proofs.uses.count_steps.Goals as goal

pub loop-placed-preserved : goal.loop-placed-preserved
loop-placed-preserved c = record {
  size = c.count.ensures.size ∙ c.loop-placed.invariant.size;
  named =
      let by : ℕ → Placed → List ℕ = λ j placed. naming j c.args.place placed.step.reason in
      named_then c.args.uses.now.items c.loop-placed.uses.items c.count.new.uses.items (λ j. flat_map (by j) (take c.loop-placed.placed-index c.args.steps.now)) (λ j. by j c.placed-item.result) _
      (λ j. flat_map_more (by j) c.args.steps.now c.loop-placed.placed-index c.placed-item.result c.loop-placed-test.true c.placed-item.is) c.loop-placed.invariant.named c.count.ensures.named;
}

pub returns-clause-named : goal.returns-clause-named
returns-clause-named c = λ j names e.
    rw (flat_map_whole (λ (placed : Placed). naming j c.args.place placed.step.reason) c.args.steps.now c.loop-placed.placed-index (omega arith)) at (c.loop-placed.invariant.named j names e)
