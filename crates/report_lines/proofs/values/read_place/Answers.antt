use Rattle.report_lines.proofs.ValueLemmas.{place_is}
use Rattle.report_lines.proofs.values.read_place.Goals as goal

pub returns : goal.returns
returns c =
    place_is c.args.space.now c.spaces_have_sizes.ensures c.args.word.now c.alternatives.result.number c.alternatives.ensures c.place_of.result c.place_of.ensures.found c.place_of.ensures.none
