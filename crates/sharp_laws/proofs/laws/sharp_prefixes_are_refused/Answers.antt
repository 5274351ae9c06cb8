use Rattle.sharp_laws.proofs.AnswerLaws.{no_confirmed_prefix}
use Rattle.sharp_laws.proofs.laws.sharp_prefixes_are_refused.Goals as goal

pub returns : goal.returns
returns c = no_confirmed_prefix
