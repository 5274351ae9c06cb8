use Rattle.std.proofs.Common.{◌≡◌, drop}
use Rattle.axiom_library.specs.Library.{library, text_among}
use Rattle.axiom_library.proofs.finding.text_under.Given as goal

abbrev pub invariant-loop-place : goal.invariant-loop-place
invariant-loop-place l = text_among (drop l.place (library l.kind)) l.name ≡ text_among (library l.kind) l.name
