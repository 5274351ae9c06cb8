use Rattle.std.proofs.Common.{◌≡◌, drop}
use Rattle.toml.specs.View.{items_view}
use Rattle.study.specs.Document.{texts_in}
use Rattle.study.proofs.Collected.{texts_after}
use Rattle.study.proofs.document.texts_in.Given as goal

abbrev pub invariant-loop-value : goal.invariant-loop-value
invariant-loop-value l = texts_after l.texts (items_view (drop l.value-index l.values)) ≡ texts_in (items_view l.values)
