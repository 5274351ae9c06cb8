use Rattle.std.proofs.Common.{◌<◌, length, refl, [], arith}
use Rattle.axiom_library.specs.Library.{Entry, library}
use Rattle.answers.specs.Axioms.{entry_line}
use Rattle.texts.proofs.LoopLemmas.{loop_stops, loop_goes_on}
use Rattle.answer_text.proofs.LineLemmas.{at_place}
use Rattle.answer_text.proofs.library.LibraryLinesText.pour.Goals as goal

no_entry : Entry
no_entry = record { name = []; text = [] }

pub returns-in_err-pour_entry : goal.returns-in_err-pour_entry
returns-in_err-pour_entry g c =
    let within : c.loop-place.place < length (library c.args.self.now.0) = omega (arith, c.count-place-end.ensures, c.loop-place-test.true) in
    loop_stops entry_line (library c.args.self.now.0) c.loop-place.place no_entry _ _ _ _ _ _ c.loop-place.invariant _ _ _ c.in_err-pour_entry.field-0.0 c.from_residual.result _ within refl c.from_residual.ensures.0
    (at_place _ (library c.args.self.now.0) c.loop-place.place no_entry within c.in_err-pour_entry.ensures)

pub loop-place-preserved : goal.loop-place-preserved
loop-place-preserved g c =
    let within : c.loop-place.place < length (library c.args.self.now.0) = omega (arith, c.count-place-end.ensures, c.loop-place-test.true) in
    loop_goes_on entry_line (library c.args.self.now.0) c.loop-place.place no_entry _ _ _ _ _ _ c.loop-place.invariant _ _ _ c.in_ok-pour_entry.field-0 _ within refl
    (at_place _ (library c.args.self.now.0) c.loop-place.place no_entry within c.in_ok-pour_entry.ensures)
