use Rattle.story_pages.proofs.homes.put_outer_at.Goals as goal

pub returns : goal.returns
returns c = rw c.greatest_depth.ensures at c.put_outer_of.ensures
