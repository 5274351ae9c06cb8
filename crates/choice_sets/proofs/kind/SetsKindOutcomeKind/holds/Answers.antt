use Rattle.choice_sets.proofs.ElementLemmas.{small_outcome}
use Rattle.choice_sets.proofs.kind.SetsKindOutcomeKind.holds.Goals as goal

pub is_element-requires-clause-set : goal.is_element-requires-clause-set
is_element-requires-clause-set c = let kind = c.args.self.now in small_outcome kind.space kind.gives_sets kind.whole.few_alternatives c.args.outcome c.requires.outcome

pub is_element-requires-in-Loses-clause-set : goal.is_element-requires-in-Loses-clause-set
is_element-requires-in-Loses-clause-set c = let kind = c.args.self.now in small_outcome kind.space kind.gives_sets kind.whole.few_alternatives c.args.outcome c.requires.outcome
