use Rattle.std.specs.Prelude.{slice_get}
use Rattle.vocab.proofs.Ranges.{goes_on}
use Rattle.axiom_library.specs.Library.{library}
use Rattle.study_hints.specs.Values.{name_text}
use Rattle.study_hints.proofs.keys.put_library.Goals as goal

pub loop-place-preserved : goal.loop-place-preserved
loop-place-preserved c = goes_on (λ place. name_text (slice_get (library c.args.kind) place)) _ _ _ _ c.loop-place.invariant c.in_ok-put_name.ensures
