use Rattle.profiles.proofs.DistinctTexts.{have_texts_of_their_own}
use Rattle.profiles.proofs.laws.texts_are_distinct.Goals as goal

pub returns : goal.returns
returns c = have_texts_of_their_own c.args.space.now c.spaces_have_sizes.ensures
