use Rattle.sorts.proofs.ConstantLemmas.{read_is_value}
use Rattle.sorts.proofs.constants.ballot_number.Goals as goal

pub returns : goal.returns
returns c = read_is_value _ _ c.read_ballot.result c.texts_are_distinct.ensures (rw c.bytes.ensures at c.read_ballot.ensures.found) (rw c.bytes.ensures at c.read_ballot.ensures.none)
