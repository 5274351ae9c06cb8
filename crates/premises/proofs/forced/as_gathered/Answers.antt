use Rattle.std.proofs.Common.{refl}
use Rattle.premises.proofs.ForcedLemmas.{stated_so}
use Rattle.premises.proofs.forced.as_gathered.Goals as goal

pub returns : goal.returns
returns c = λ size axioms core earlier so_far.
    stated_so size axioms core earlier c.args.gathered (record { board = c.args.gathered.board; passage = c.args.gathered.passage }) so_far c.as_slice-facts.ensures.ours c.as_slice-facts.ensures.distinct refl refl
