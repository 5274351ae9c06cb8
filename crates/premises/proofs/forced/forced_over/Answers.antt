use Rattle.std.proofs.Common.{refl, []}
use Rattle.meaning.specs.Stories.{has_literals}
use Rattle.tellings.specs.Tellings.{several}
use Rattle.premises.proofs.ForcedLemmas.{forced_so}
use Rattle.premises.proofs.SeveralLemmas.{holds_of_several}
use Rattle.premises.proofs.StepLemmas.{story_literals}
use Rattle.premises.proofs.forced.forced_over.Goals as goal

pub invariant_of-grounds : goal.invariant_of-grounds
invariant_of-grounds g c = record { places = c.args.accepted.now.places; literals = refl }

pub forced_in-requires-clause-literals : goal.forced_in-requires-clause-literals
forced_in-requires-clause-literals g c = λ κs out.
    let accepted = c.args.accepted.now in
    let size = g.K.OutcomeKind.size accepted.setting.now.kind.now in
    rw (c.several.ensures, c.as_slice.ensures)
    (holds_of_several (has_literals size) accepted.story.now (story_literals size accepted.setting.now.study.now.axioms accepted.core.now [] accepted.story.now accepted.accepted))

pub returns : goal.returns
returns g c =
    let accepted = c.args.accepted.now in
    forced_so (g.K.OutcomeKind.size accepted.setting.now.kind.now) accepted.setting.now.study.now.axioms accepted.core.now [] (several accepted.story.now) c.in_ok-forced.forced refl (rw (c.several.ensures, c.as_slice.ensures) at c.in_ok-forced.ensures)
