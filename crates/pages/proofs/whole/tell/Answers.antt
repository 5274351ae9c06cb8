use Rattle.pages.proofs.RightLemmas.{right_parts}
use Rattle.pages.proofs.whole.tell.Goals as goal

pub invariant_of-accepted : goal.invariant_of-accepted
invariant_of-accepted g c =
    let parts = right_parts c.args.setting.now.study.now c.args.core.now c.args.story.now c.args.witnesses.now c.requires.right in
    record { places = parts.0; accepted = rw (← c.args.setting.now.same) parts.1 }

pub returns : goal.returns
returns g c = rw c.args.setting.now.same c.tell_story.ensures
