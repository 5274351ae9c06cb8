use Rattle.report_lines.proofs.LiteralLemmas.{no_letter, no_profile, a_winner}
use Rattle.report_lines.proofs.literals.read_winner.Goals as goal

pub returns-in_default-alternative_of : goal.returns-in_default-alternative_of
returns-in_default-alternative_of c = no_letter c.args.space.now c.args.word.now c.in-Some.byte 64 c.in-Some.text.now c.in-Some.ensures c.in_default-alternative_of.ensures

pub returns-in-Some-read_profile : goal.returns-in-Some-read_profile
returns-in-Some-read_profile c =
    a_winner c.args.space.now c.args.word.now c.in-Some.byte c.in-Some-alternative_of.alternative c.in-Some-read_profile.profile c.in-Some.text.now c.in-Some.ensures c.in-Some-alternative_of.ensures c.in-Some-read_profile.ensures

pub returns-in-None : goal.returns-in-None
returns-in-None c = no_profile c.args.space.now c.args.word.now c.in-Some.byte 64 c.in-Some.text.now c.in-Some.ensures c.in-None.ensures
