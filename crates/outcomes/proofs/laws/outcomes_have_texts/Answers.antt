use Rattle.outcomes.proofs.OutcomeTexts.{have_texts_of_letters}
use Rattle.outcomes.proofs.laws.outcomes_have_texts.Goals as goal

pub returns : goal.returns
returns g c = have_texts_of_letters (g.K.OutcomeKind.size c.args.kind.now) c.kinds_have_sizes.ensures
