use Rattle.sharp_lines.proofs.LastLemmas.{one_at_most, cut_slice}
use Rattle.sharp_lines.proofs.last.last_word.Goals as goal

pub returns-in_default : goal.returns-in_default
returns-in_default c = one_at_most c.args.rest.now c.in_default.ensures

pub returns : goal.returns
returns c = cut_slice c.args.rest.now c.in-Some.place c.in-Some.ensures
