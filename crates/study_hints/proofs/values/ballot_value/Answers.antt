use Rattle.sorts.proofs.ConstantLemmas.{read_is_value}
use Rattle.study_hints.proofs.values.ballot_value.Goals as goal

pub returns : goal.returns
returns c = read_is_value _ _ c.read_ballot.result c.texts_are_distinct.ensures c.read_ballot.ensures.found c.read_ballot.ensures.none
