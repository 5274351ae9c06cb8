use Rattle.premises.proofs.HomeLemmas.{homes_are}
use Rattle.premises.proofs.homes.homes_of.Goals as goal

pub returns : goal.returns
returns c =
    rw c.from_vec.ensures
    (homes_are c.args.story.now c.args.tellings.now c.in_ok-uses.uses.items c.in_ok-homes.homes.items c.in_ok-uses.ensures (rw c.as_slice.ensures.value at c.in_ok-homes.ensures))
