use Rattle.report_lines.proofs.ValueLemmas.{ballot_is}
use Rattle.report_lines.proofs.values.read_ballot.Goals as goal

pub returns : goal.returns
returns c = ballot_is c.args.space.now c.spaces_have_sizes.ensures c.args.word.now c.read_ballot.result c.read_ballot.ensures.found c.read_ballot.ensures.none
