use Rattle.std.proofs.Common.{◌∙◌, arith}
use Rattle.axiom_library.specs.Library.{Entry}
use Rattle.names.proofs.FromTheLast.{one_more_name, no_name}
use Rattle.study.proofs.by_name.index_of.Goals as goal

pub loop-place-init : goal.loop-place-init
loop-place-init c = (omega arith, no_name (λ (e : Entry). e.name) c.new-index.result c.args.entries.now c.new-index.ensures)

pub loop-place-preserved : goal.loop-place-preserved
loop-place-preserved c = (
  omega (arith, c.loop-place.invariant.0),
  one_more_name (λ (e : Entry). e.name) c.loop-place.index c.put.new.self c.args.entries.now c.loop-place.place c.index-entries-place.result c.bytes.result.now c.loop-place-test.true c.loop-place.invariant.0 c.index-entries-place.is
      (c.bytes.ensures ∙ c.name-name.ensures) c.in_ok-put.ensures c.loop-place.invariant.1,
)
