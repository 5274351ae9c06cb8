use Rattle.std.proofs.Common.{◌∙◌, arith}
use Rattle.vocab.specs.Titled.{Titled}
use Rattle.names.proofs.FromTheLast.{one_more_name, no_name}
use Rattle.report_lines.proofs.indexed.index_of.Goals as goal

pub loop-place-init : goal.loop-place-init
loop-place-init c = (omega arith, no_name (λ (a : Titled). a.name) c.new-index.result c.as_slice-axioms.result.now c.new-index.ensures)

pub loop-place-preserved : goal.loop-place-preserved
loop-place-preserved c = (
  omega (arith, c.loop-place.invariant.0),
  one_more_name (λ (a : Titled). a.name) c.loop-place.index c.put.new.self c.as_slice-axioms.result.now c.loop-place.place c.index-axioms-place.result c.bytes.result.now c.loop-place-test.true c.loop-place.invariant.0 c.index-axioms-place.is
      (c.bytes.ensures ∙ c.name-name.ensures) c.in_ok-put.ensures c.loop-place.invariant.1,
)
