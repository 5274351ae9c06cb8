use Rattle.std.proofs.Common.{◌≡◌, ◌++◌}
use Rattle.std.specs.Prelude.{slice_get}
use Rattle.std.specs.List.{flat_map}
use Rattle.vocab.specs.Range.{below}
use Rattle.axiom_library.specs.Library.{library}
use Rattle.study_hints.specs.Values.{name_text}
use Rattle.study_hints.proofs.keys.put_library.Given as goal

-- the names so far were added
abbrev pub invariant-loop-place : goal.invariant-loop-place
invariant-loop-place l = l.out ≡ l.initial.out ++ flat_map (λ place. name_text (slice_get (library l.kind) place)) (below l.place)
