use Rattle.report_lines.proofs.LiteralLemmas.{no_upper}
use Rattle.report_lines.proofs.literals.read_ranking.Goals as goal

pub returns-in_default-alternative_of : goal.returns-in_default-alternative_of
returns-in_default-alternative_of c = no_upper c.args.space.now c.args.word.now c.in-Some.byte c.in-Some.text.now c.in-Some.ensures c.in_default-alternative_of.ensures
